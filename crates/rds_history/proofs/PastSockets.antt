-- What a past keeps at each command on a socket.
use Rattle.std.proofs.Common.{◌≡◌, ◌≢◌, ℕ, ◌+◌, ◌<◌, ◌≤◌, ◌^◌, ◌==◌, ◌&&◌, Bool, true, false, cond, Option, Some, None, Ok, List, [], ◌∷◌, length, refl, sym, subst, arith}
use Rattle.std.specs.Prelude.{nat_lt, min, codes}
use Rattle.std.specs.Option.{option_map_or}
use Rattle.std.proofs.lemmas.Bool.{ltb-false, leb-false, eqb-false}
use Rattle.rds_wire.specs.declared.kind.TheConstants.{MAX_LENGTH}
use Rattle.rds_model.specs.declared.entry.Entry.{Entry}
use Rattle.rds_model.specs.declared.entry.Entry.TheVariants.{Accept, Cancel}
use Rattle.rds_model.specs.declared.entry.Target.{Target}
use Rattle.rds_model.specs.declared.entry.Target.TheVariants.{Port, All as Every}
use Rattle.rds_model.specs.declared.entry.TheConstants.{NO_SLOT, MAX_SLOTS}
use Rattle.rds_model.specs.declared.order.Datagram.{Datagram}
use Rattle.rds_text.specs.Lines.{recv_none_line}
use Rattle.rds_text.specs.Refusals.{no_socket, socket_refused_line, send_refused_line}
use Rattle.rds_history.specs.Events.{Event, Appended, Bound, Closed, Received, Marked}
use Rattle.rds_history.specs.Courses.{Course, and_then, appends, prints, or_refuses, with_socket, each}
use Rattle.rds_history.specs.Journals.{journal, is_marked, peers}
use Rattle.rds_history.specs.Sockets.{next_slot, holder, queue, receive_buffer, send_buffer}
use Rattle.rds_history.specs.Bind.{bind, bind_refusal}
use Rattle.rds_history.specs.Send.{send, send_refusal}
use Rattle.rds_history.specs.Recv.{recv, hand_out}
use Rattle.rds_history.specs.Cancel.{cancel, cancel_refusal, close, unbind}
use Rattle.rds_history.proofs.EventInvariants.{Holds, holds_then}
use Rattle.rds_history.proofs.JoinedEnds.{AreJoined, joined_accepted, joined_cancelled}
use Rattle.rds_history.proofs.PastEnds.{ends, AreTwo, Keeps, keeps_later, still_appended, appended_here, keeps_marked, keeps_printed}
use Rattle.rds_history.proofs.PastMoves.{holds_room, accepted_within, keeps_update_mark}
use Rattle.rds_history.proofs.ScriptHosts.{holds_each_where, IsPeer, peers_are}

-- a list of causes that names none
none_of : (b : Bool) (why : List ℕ) (others : Option (List ℕ)) → cond b (Some why) others ≡ None → (b ≡ false) × (others ≡ None)
none_of true why others is = cc
none_of false why others is = (refl, is)

min_right : (a b n : ℕ) → n ≤ min a b → n ≤ b
min_right a b n within = omega (arith, within)

apart_of : (h k : ℕ) → (h == k) ≡ false → h ≢ k
apart_of h k is same = eqb-false h k is same

-- the slot of a socket is that of no pong
no_pong : (slot : ℕ) → slot < MAX_SLOTS → slot ≢ NO_SLOT
no_pong slot fits same = omega (arith, fits, same)

-- where there are so many hosts
module _ (hosts : ℕ) where
  -- a command that may be refused, that needs a socket, or a stream
  keeps_or_refuses : (why : Option (List ℕ)) (refusal : List ℕ → List ℕ) (act : List Event → Course) (past : List Event) → Keeps hosts past →
      (why ≡ None → Holds (Keeps hosts) (act past)) → Holds (Keeps hosts) (or_refuses why refusal act past)
  keeps_or_refuses None refusal act past keeps done = done refl
  keeps_or_refuses (Some why) refusal act past keeps done = keeps_printed hosts (refusal why) past keeps

  keeps_with_socket : (h port : ℕ) (refusal : List ℕ) (act : ℕ → List Event → Course) (past : List Event) → Keeps hosts past →
      ((slot : ℕ) → slot < MAX_SLOTS → Holds (Keeps hosts) (act slot past)) → Holds (Keeps hosts) (with_socket h port refusal act past)
  keeps_with_socket h port refusal act past keeps done = go (holder h port past) refl
    where
      go : (o : Option ℕ) → holder h port past ≡ o → Holds (Keeps hosts) (option_map_or (λ slot. act slot past) o (prints refusal past))
      go None none = keeps_printed hosts refusal past keeps
      go (Some slot) is = done slot (keeps.slots h port slot is)

  -- a socket is bound, or closed
  keeps_bound : (h port slot sndbuf rcvbuf : ℕ) (past : List Event) → slot < MAX_SLOTS → Keeps hosts past → Keeps hosts (Bound h port slot sndbuf rcvbuf ∷ past)
  keeps_bound h port slot sndbuf rcvbuf past fits keeps = record { joined = keeps.joined; own = keeps.own; beyond = keeps.beyond; slots = λ x p n is. go x p n (h == x && (port == p)) is }
    where
      go : (x p n : ℕ) (b : Bool) → cond b (Some slot) (holder x p past) ≡ Some n → n < MAX_SLOTS
      go x p n true is = let same : slot ≡ n = cc in omega (arith, same, fits)
      go x p n false is = keeps.slots x p n is

  keeps_closed : (h port slot unread : ℕ) (past : List Event) → Keeps hosts past → Keeps hosts (Closed h port slot unread ∷ past)
  keeps_closed h port slot unread past keeps = record { joined = keeps.joined; own = keeps.own; beyond = keeps.beyond; slots = λ x p n is. go x p n (h == x && (port == p)) is }
    where
      go : (x p n : ℕ) (b : Bool) → cond b None (holder x p past) ≡ Some n → n < MAX_SLOTS
      go x p n true is = cc
      go x p n false is = keeps.slots x p n is

  -- the commands on sockets
  pub keeps_bind : (h port sndbuf rcvbuf : ℕ) (past : List Event) → Keeps hosts past → Holds (Keeps hosts) (bind h port sndbuf rcvbuf past)
  keeps_bind h port sndbuf rcvbuf past keeps =
      keeps_or_refuses (bind_refusal h port past) (socket_refused_line (codes "bind") h port)
      (λ (before : List Event). Ok (Bound h port (next_slot h before) sndbuf rcvbuf ∷ before)) past keeps
      (λ none. keeps_bound h port (next_slot h past) sndbuf rcvbuf past (leb-false MAX_SLOTS (next_slot h past) (none_of _ _ _ none).0) keeps)

  keeps_hand_out : (ds : List Datagram) (h port slot : ℕ) (past : List Event) → Keeps hosts past → Holds (Keeps hosts) (hand_out ds h port slot past)
  keeps_hand_out [] h port slot past keeps = keeps_printed hosts (recv_none_line h port) past keeps
  keeps_hand_out (d ∷ waiting) h port slot past keeps =
      keeps_update_mark hosts h port slot (Received h port slot d ∷ past) (record { joined = keeps.joined; own = keeps.own; beyond = keeps.beyond; slots = keeps.slots })

  pub keeps_recv : (h port : ℕ) (past : List Event) → Keeps hosts past → Holds (Keeps hosts) (recv h port past)
  keeps_recv h port past keeps =
      keeps_with_socket h port (socket_refused_line (codes "recv") h port no_socket) (λ slot before. hand_out (queue h slot before) h port slot before) past keeps
      (λ slot fits. keeps_hand_out (queue h slot past) h port slot past keeps)

  keeps_unbind : (h port slot : ℕ) (past : List Event) → Keeps hosts past → Keeps hosts (unbind h port slot past)
  keeps_unbind h port slot past keeps = go (is_marked h port past)
    where
      go : (was : Bool) → Keeps hosts (Closed h port slot (length (queue h slot past)) ∷ cond was (Marked h port false 0 (receive_buffer h slot past) ∷ past) past)
      go true = keeps_closed h port slot (length (queue h slot past)) _ (keeps_marked hosts h port false 0 (receive_buffer h slot past) past keeps)
      go false = keeps_closed h port slot (length (queue h slot past)) past keeps

  -- an entry of a socket
  module _ (limit h k slot : ℕ) (past : List Event) (two : AreTwo hosts h k) (fits : slot < MAX_SLOTS) (keeps : Keeps hosts past) where
    here_apart : h ≢ k
    here_apart = two.apart

    keeps_entry : (e : Entry) → (length (journal h k past) + 2 ≤ limit → AreJoined (ends h k (Appended h k e ∷ past))) → Holds (Keeps hosts) (appends limit h k e past)
    keeps_entry e joined =
        holds_room (Keeps hosts) limit h k past (λ (before : List Event). Ok (Appended h k e ∷ before))
        (λ room. keeps_later hosts h k past (Appended h k e ∷ past) two keeps (still_appended h k e past here_apart) (joined room))

    keeps_accepted : (port dport : ℕ) (payload : List ℕ) → limit ≤ 2 ^ 63 → port ≤ 65535 → dport ≤ 65535 → length payload ≤ MAX_LENGTH →
        Holds (Keeps hosts) (appends limit h k (Accept slot port dport payload) past)
    keeps_accepted port dport payload small from to short =
        keeps_entry (Accept slot port dport payload) (λ room.
        subst AreJoined (sym (appended_here h k (Accept slot port dport payload) past here_apart))
        (joined_accepted (ends h k past) slot port dport payload (keeps.joined h k here_apart) (record {
          socket = no_pong slot fits;
          sport_fits = omega (arith, from);
          dport_fits = omega (arith, to);
          payload_fits = short;
          number_fits = omega (arith, room, small, accepted_within (journal h k past));
        })))

    keeps_cancelled : (target : Target) → Holds (Keeps hosts) (appends limit h k (Cancel slot target) past)
    keeps_cancelled target =
        keeps_entry (Cancel slot target) (λ room.
        subst AreJoined (sym (appended_here h k (Cancel slot target) past here_apart))
        (joined_cancelled (ends h k past) slot target (keeps.joined h k here_apart) (no_pong slot fits)))

  pub keeps_send : (limit h port k dport : ℕ) (payload : List ℕ) (past : List Event) → h < hosts → k < hosts → limit ≤ 2 ^ 63 → port ≤ 65535 → dport ≤ 65535 → Keeps hosts past →
      Holds (Keeps hosts) (send limit hosts h port k dport payload past)
  keeps_send limit h port k dport payload past known_h known_k small from to keeps =
      keeps_with_socket h port (send_refused_line h port k dport no_socket)
      (λ slot before. or_refuses (send_refusal hosts h slot k dport (length payload) before) (send_refused_line h port k dport)
      (appends limit h k (Accept slot port dport payload)) before) past keeps
      (λ slot fits. keeps_or_refuses (send_refusal hosts h slot k dport (length payload) past) (send_refused_line h port k dport)
      (appends limit h k (Accept slot port dport payload)) past keeps
      (λ none.
      let most : ℕ = min (send_buffer h slot past) MAX_LENGTH in
      let short = none_of (nat_lt most (length payload)) _ _ none in
      let route = none_of (h == k) _ _ short.1 in
      let within : length payload ≤ most = ltb-false most (length payload) short.0 in
      keeps_accepted limit h k slot past (record { first = known_h; second = known_k; apart = apart_of h k route.0 }) fits keeps port dport payload small from to (min_right (send_buffer h slot past) MAX_LENGTH (length payload) within)))

  pub keeps_cancel : (limit h port k dport : ℕ) (past : List Event) → h < hosts → k < hosts → Keeps hosts past → Holds (Keeps hosts) (cancel limit h port k dport past)
  keeps_cancel limit h port k dport past known_h known_k keeps =
      keeps_with_socket h port (socket_refused_line (codes "cancel") h port no_socket)
      (λ slot. or_refuses (cancel_refusal h k) (socket_refused_line (codes "cancel") h port) (appends limit h k (Cancel slot (Port dport)))) past keeps
      (λ slot fits. keeps_or_refuses (cancel_refusal h k) (socket_refused_line (codes "cancel") h port)
      (appends limit h k (Cancel slot (Port dport))) past keeps
      (λ none. keeps_cancelled limit h k slot past (record { first = known_h; second = known_k; apart = apart_of h k (none_of _ _ _ none).0 }) fits keeps (Port dport)))

  pub keeps_close : (limit h port : ℕ) (past : List Event) → h < hosts → Keeps hosts past → Holds (Keeps hosts) (close limit hosts h port past)
  keeps_close limit h port past known_h keeps =
      keeps_with_socket h port (socket_refused_line (codes "close") h port no_socket)
      (λ slot before. and_then (each (peers hosts h) (λ k. appends limit h k (Cancel slot Every)) before) (λ later. Ok (unbind h port slot later))) past keeps
      (λ slot fits. holds_then (Keeps hosts) (Keeps hosts) (each (peers hosts h) (λ k. appends limit h k (Cancel slot Every)) past) (λ (later : List Event). Ok (unbind h port slot later))
      (holds_each_where (Keeps hosts) (IsPeer hosts h) (peers hosts h) (λ k. appends limit h k (Cancel slot Every)) past keeps (peers_are hosts h)
      (λ k peer before there. keeps_cancelled limit h k slot before (record { first = known_h; second = peer.0; apart = peer.1 }) fits there Every))
      (λ later there. keeps_unbind h port slot later there))
