-- What each event of a command keeps, each command keeps.
use Rattle.std.proofs.Common.{◌≡◌, ℕ, ◌+◌, ◌-◌, Bool, true, false, cond, Option, Some, None, Ok, List, [], ◌∷◌, length, refl}
use Rattle.std.specs.Prelude.{unwrap_or, codes}
use Rattle.std.specs.Option.{option_map_or}
use Rattle.rds_model.specs.declared.entry.Entry.{Entry}
use Rattle.rds_model.specs.declared.entry.Entry.TheVariants.{Accept, Cancel}
use Rattle.rds_model.specs.declared.entry.Target.TheVariants.{Port, All}
use Rattle.rds_model.specs.declared.order.Datagram.{Datagram}
use Rattle.rds_model.specs.Past.{open_stream}
use Rattle.rds_script.specs.declared.script.Command.{Command}
use Rattle.rds_script.specs.declared.script.Command.TheVariants as command
use Rattle.rds_script.specs.declared.script.Placed.{Placed}
use Rattle.rds_text.specs.Lines.{cut_line, drained_line, move_line, recv_none_line}
use Rattle.rds_text.specs.Refusals.{is_down, is_open, no_socket, socket_refused_line, pair_refused_line, send_refused_line}
use Rattle.rds_history.specs.Events.{Event, Bound, Received, Marked, Printed}
use Rattle.rds_history.specs.Courses.{Course, and_then, appends, prints, or_refuses, with_socket, on_stream, each, again}
use Rattle.rds_history.specs.Journals.{journal, moved_in_all, in_flight, is_marked, peers}
use Rattle.rds_history.specs.Sockets.{next_slot, holder, queue, receive_buffer}
use Rattle.rds_history.specs.Bind.{bind, bind_refusal, free_port}
use Rattle.rds_history.specs.Send.{send, send_refusal}
use Rattle.rds_history.specs.Recv.{recv, hand_out}
use Rattle.rds_history.specs.Cancel.{cancel, cancel_refusal, close, unbind, unmark}
use Rattle.rds_history.specs.Open.{open_both, open_pair, cut, cut_both}
use Rattle.rds_history.specs.Move.{move_up_to, move_and_tell, move}
use Rattle.rds_history.specs.Drain.{HostPair, pairs, open_if_closed, round, rounds, drain}
use Rattle.rds_history.specs.History.{after, history}
pub use Rattle.rds_history.proofs.Holding.{Holds, holds_then, holds_if_room, holds_appends, holds_each, holds_again, holds_weaker}
pub use Rattle.rds_history.proofs.KeptMoves.{IsQuiet, IsRouted, IsKept, IsKeptInFlight, in_flight_too, keeps_update_mark, keeps_turn, keeps_move_up_to, keeps_round}

module _ (P : List Event → Type 0) (kept : IsKeptInFlight P) where
  keeps_appends : (limit h k : ℕ) (e : Entry) (past : List Event) → IsQuiet e → ((before : List Event) → IsRouted h e before) → P past →
      Holds P (appends limit h k e past)
  keeps_appends limit h k e past quiet routed p =
      holds_appends P P limit h k e past p (λ before there. kept.appended h k e before quiet (routed before) there)

  -- a command that may be refused, that needs a socket, or a stream
  keeps_or_refuses : (why : Option (List ℕ)) (refusal : List ℕ → List ℕ) (act : List Event → Course) (past : List Event) → P past →
      Holds P (act past) → Holds P (or_refuses why refusal act past)
  keeps_or_refuses None refusal act past p done = done
  keeps_or_refuses (Some why) refusal act past p done = kept.printed (refusal why) past p

  keeps_choice : (o : Option ℕ) (act : ℕ → List Event → Course) (other : Course) (past : List Event) →
      ((n : ℕ) → Holds P (act n past)) → Holds P other → Holds P (option_map_or (λ n. act n past) o other)
  keeps_choice None act other past done none = none
  keeps_choice (Some n) act other past done none = done n

  keeps_with_socket : (h port : ℕ) (refusal : List ℕ) (act : ℕ → List Event → Course) (past : List Event) → P past →
      ((slot : ℕ) → Holds P (act slot past)) → Holds P (with_socket h port refusal act past)
  keeps_with_socket h port refusal act past p done =
      keeps_choice (holder h port past) act (prints refusal past) past done (kept.printed refusal past p)

  keeps_on_stream : (h k : ℕ) (closed : List Event → Course) (act : ℕ → List Event → Course) (past : List Event) →
      Holds P (closed past) → ((stream : ℕ) → Holds P (act stream past)) → Holds P (on_stream h k closed act past)
  keeps_on_stream h k closed act past none done = keeps_choice (open_stream (journal h k past)) act (closed past) past done none

  -- the commands on sockets
  keeps_bind : (h port sndbuf rcvbuf : ℕ) (past : List Event) → P past → Holds P (bind h port sndbuf rcvbuf past)
  keeps_bind h port sndbuf rcvbuf past p =
      keeps_or_refuses (bind_refusal h port past) (socket_refused_line (codes "bind") h port)
      (λ (before : List Event). Ok (Bound h port (next_slot h before) sndbuf rcvbuf ∷ before)) past p (kept.bound h port (next_slot h past) sndbuf rcvbuf past refl p)

  keeps_send : (limit hosts h port k dport : ℕ) (payload : List ℕ) (past : List Event) → P past → Holds P (send limit hosts h port k dport payload past)
  keeps_send limit hosts h port k dport payload past p =
      keeps_with_socket h port (send_refused_line h port k dport no_socket)
      (λ slot before. or_refuses (send_refusal hosts h slot k dport (length payload) before) (send_refused_line h port k dport)
      (appends limit h k (Accept slot port dport payload)) before) past p
      (λ slot. keeps_or_refuses (send_refusal hosts h slot k dport (length payload) past) (send_refused_line h port k dport)
      (appends limit h k (Accept slot port dport payload)) past p (keeps_appends limit h k (Accept slot port dport payload) past (λ j. refl) (λ before. tt) p))

  keeps_hand_out : (ds : List Datagram) (h port slot : ℕ) (past : List Event) → queue h slot past ≡ ds → P past → Holds P (hand_out ds h port slot past)
  keeps_hand_out [] h port slot past is p = kept.printed (recv_none_line h port) past p
  keeps_hand_out (d ∷ waiting) h port slot past is p = keeps_update_mark P kept h port slot (Received h port slot d ∷ past) (kept.received h port slot d waiting past is p)

  keeps_recv : (h port : ℕ) (past : List Event) → P past → Holds P (recv h port past)
  keeps_recv h port past p =
      keeps_with_socket h port (socket_refused_line (codes "recv") h port no_socket) (λ slot before. hand_out (queue h slot before) h port slot before) past p
      (λ slot. keeps_hand_out (queue h slot past) h port slot past refl p)

  keeps_cancel : (limit h port k dport : ℕ) (past : List Event) → P past → Holds P (cancel limit h port k dport past)
  keeps_cancel limit h port k dport past p =
      keeps_with_socket h port (socket_refused_line (codes "cancel") h port no_socket)
      (λ slot. or_refuses (cancel_refusal h k) (socket_refused_line (codes "cancel") h port) (appends limit h k (Cancel slot (Port dport)))) past p
      (λ slot. keeps_or_refuses (cancel_refusal h k) (socket_refused_line (codes "cancel") h port)
      (appends limit h k (Cancel slot (Port dport))) past p (keeps_appends limit h k (Cancel slot (Port dport)) past (λ j. refl) (λ before. tt) p))

  keeps_unbind : (h port slot : ℕ) (past : List Event) → P past → P (unbind h port slot past)
  keeps_unbind h port slot past p = kept.closed h port slot (length (queue h slot past)) (unmark h port slot past) (go (is_marked h port past))
    where
      go : (was : Bool) → P (cond was (Marked h port false 0 (receive_buffer h slot past) ∷ past) past)
      go true = kept.marked h port false 0 (receive_buffer h slot past) past p
      go false = p

  keeps_close : (limit hosts h port : ℕ) (past : List Event) → P past → Holds P (close limit hosts h port past)
  keeps_close limit hosts h port past p =
      keeps_with_socket h port (socket_refused_line (codes "close") h port no_socket)
      (λ slot before. and_then (each (peers hosts h) (λ k. appends limit h k (Cancel slot All)) before) (λ later. Ok (unbind h port slot later))) past p
      (λ slot. holds_then P P (each (peers hosts h) (λ k. appends limit h k (Cancel slot All)) past) (λ (later : List Event). Ok (unbind h port slot later))
      (holds_each P (peers hosts h) (λ k. appends limit h k (Cancel slot All)) past p
      (λ k before there. keeps_appends limit h k (Cancel slot All) before (λ j. refl) (λ now. tt) there))
      (λ later there. keeps_unbind h port slot later there))

  -- the commands on streams
  keeps_move : (limit h k count : ℕ) (past : List Event) → P past → Holds P (move limit h k count past)
  keeps_move limit h k count past p =
      keeps_on_stream h k (prints (pair_refused_line (codes "move") h k is_down)) (λ stream. move_and_tell limit h k count) past
      (kept.printed (pair_refused_line (codes "move") h k is_down) past p)
      (λ stream. holds_then P P (move_up_to limit h k (Some (moved_in_all past + count)) past)
      (λ later. prints (move_line h k (moved_in_all later - moved_in_all past)) later)
      (keeps_move_up_to P kept limit h k (Some (moved_in_all past + count)) past p)
      (λ later there. kept.printed (move_line h k (moved_in_all later - moved_in_all past)) later there))

  keeps_cut : (limit h k : ℕ) (past : List Event) → P past → Holds P (cut limit h k past)
  keeps_cut limit h k past p =
      let text = cut_line h k (length (in_flight h k past)) (length (in_flight k h past)) in
      keeps_on_stream h k (prints (pair_refused_line (codes "cut") h k is_down)) (λ stream. cut_both limit h k) past
      (kept.printed (pair_refused_line (codes "cut") h k is_down) past p)
      (λ stream. kept.shut limit h k (Printed text ∷ past) (kept.printed text past p))

  keeps_open : (limit h k : ℕ) (past : List Event) → P past → Holds P (open_pair limit h k past)
  keeps_open limit h k past p =
      keeps_on_stream h k (open_both limit h k) (λ stream. prints (pair_refused_line (codes "open") h k is_open)) past
      (kept.opened limit h k past p) (λ stream. kept.printed (pair_refused_line (codes "open") h k is_open) past p)

  keeps_open_if_closed : (limit : ℕ) (pair : HostPair) (past : List Event) → P past → Holds P (open_if_closed limit pair past)
  keeps_open_if_closed limit pair past p =
      keeps_on_stream pair.low pair.high (open_both limit pair.low pair.high) (λ stream before. Ok before) past
      (kept.opened limit pair.low pair.high past p) (λ stream. p)

  pub keeps_opening : (limit hosts : ℕ) (past : List Event) → P past → Holds P (each (pairs hosts) (open_if_closed limit) past)
  keeps_opening limit hosts past p =
      holds_each P (pairs hosts) (open_if_closed limit) past p (λ pair before there. keeps_open_if_closed limit pair before there)

  keeps_drain : (limit hosts : ℕ) (past : List Event) → P past → Holds P (drain limit hosts past)
  keeps_drain limit hosts past p =
      holds_then P P (each (pairs hosts) (open_if_closed limit) past)
      (λ opened. and_then (again (rounds limit) (round limit hosts) opened) (prints drained_line))
      (keeps_opening limit hosts past p)
      (λ opened there. holds_then P P (again (rounds limit) (round limit hosts) opened) (prints drained_line)
      (holds_again P (rounds limit) (round limit hosts) opened there (keeps_round P kept limit hosts))
      (λ later q. kept.printed drained_line later q))

  -- each command keeps it
  pub keeps_after_in_flight : (limit hosts : ℕ) (c : Command) (past : List Event) → P past → Holds P (after limit hosts c past)
  keeps_after_in_flight limit hosts (command.Bind host port sndbuf rcvbuf) past p = keeps_bind host port sndbuf rcvbuf past p
  keeps_after_in_flight limit hosts (command.BindAny host port sndbuf rcvbuf) past p = keeps_bind host (unwrap_or (free_port host port past) port) sndbuf rcvbuf past p
  keeps_after_in_flight limit hosts (command.Send host port to dport payload) past p = keeps_send limit hosts host port to dport payload past p
  keeps_after_in_flight limit hosts (command.Recv host port) past p = keeps_recv host port past p
  keeps_after_in_flight limit hosts (command.Cancel host port to dport) past p = keeps_cancel limit host port to dport past p
  keeps_after_in_flight limit hosts (command.Close host port) past p = keeps_close limit hosts host port past p
  keeps_after_in_flight limit hosts (command.Open host to) past p = keeps_open limit host to past p
  keeps_after_in_flight limit hosts (command.Move host to bytes) past p = keeps_move limit host to bytes past p
  keeps_after_in_flight limit hosts (command.Cut host to) past p = keeps_cut limit host to past p
  keeps_after_in_flight limit hosts command.Drain past p = keeps_drain limit hosts past p

  -- and so do all commands of a script
  pub keeps_history_in_flight : (limit hosts : ℕ) (commands : List Placed) (past : List Event) → P past → Holds P (history limit hosts commands past)
  keeps_history_in_flight limit hosts [] past p = p
  keeps_history_in_flight limit hosts (placed ∷ commands) past p =
      holds_then P P (after limit hosts placed.command past) (history limit hosts commands) (keeps_after_in_flight limit hosts placed.command past p)
      (λ later q. keeps_history_in_flight limit hosts commands later q)

-- the same of what all counts of bytes keep
pub keeps_after : (P : List Event → Type 0) → IsKept P → (limit hosts : ℕ) (c : Command) (past : List Event) → P past →
    Holds P (after limit hosts c past)
keeps_after P kept = keeps_after_in_flight P (in_flight_too P kept)

pub keeps_history : (P : List Event → Type 0) → IsKept P → (limit hosts : ℕ) (commands : List Placed) (past : List Event) → P past →
    Holds P (history limit hosts commands past)
keeps_history P kept = keeps_history_in_flight P (in_flight_too P kept)
