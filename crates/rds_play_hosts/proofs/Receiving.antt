-- A datagram that was handed out.
use Rattle.std.proofs.Common.{◌≡◌, ℕ, Bool, true, false, Result, Ok, Err, zero, suc, ◌+◌, ◌<◌, ◌≤◌, ◌==◌, ◌&&◌, List, [], ◌∷◌, ◌++◌, length, map, drop, get_or, set, refl, sym, ◌∙◌, ap, subst, arith, add-one}
use Rattle.std.specs.Prelude.{IfOk, OnOk, sum_by}
use Rattle.std.proofs.lemmas.Bool.{cond-true, cond-false}
use Rattle.std.proofs.lemmas.List.{length_push}
use Rattle.std.proofs.lemmas.List.Sums.{sum_by-cons}
use Rattle.rds_wire.specs.declared.memory.Memory.{Memory}
use Rattle.rds_model.specs.declared.order.Datagram.{Datagram}
use Rattle.rds_history.specs.Events.{Event, Received}
use Rattle.rds_text.specs.Hosts.{host_at}
use Rattle.rds_text.specs.Lines.{recv_line}
use Rattle.rds_history.specs.Sockets.{next_slot, arrived_datagrams, handed_out, queue, queued}
use Rattle.rds_history.specs.Transcript.{lines}
use Rattle.rds_play_hosts.specs.declared.host.Arrived.{Arrived}
use Rattle.rds_play_hosts.specs.declared.host.ScriptHost.{ScriptHost}
use Rattle.rds_play_hosts.specs.declared.host.ScriptSocket.{ScriptSocket}
use Rattle.rds_play_hosts.specs.HostLaws.{same_pair, other_pair}
use Rattle.rds_play_hosts.specs.Receiving.{HandsOut, KeepsAll}
use Rattle.rds_play_hosts.specs.Telling.{TellsHost, TellsSocket}
use Rattle.rds_play_hosts.proofs.OneSocket.{found_at, host_replaced, places}

drop_next : {X : Type 0} (n : ℕ) (xs : List X) (y : X) (ys : List X) → drop n xs ≡ y ∷ ys → drop (suc n) xs ≡ ys
drop_next zero [] y ys is = cc
drop_next zero (x ∷ xs) y ys is = cc
drop_next (suc n) [] y ys is = cc
drop_next (suc n) (x ∷ xs) y ys is = drop_next n xs y ys is

drop_short : {X : Type 0} (n : ℕ) (xs : List X) (y : X) (ys : List X) → drop n xs ≡ y ∷ ys → suc n ≤ length xs
drop_short zero [] y ys is = cc
drop_short zero (x ∷ xs) y ys is = omega arith
drop_short (suc n) [] y ys is = cc
drop_short (suc n) (x ∷ xs) y ys is = let below = drop_short n xs y ys is in omega arith

received_here : (h port slot : ℕ) (d : Datagram) (past : List Event) → handed_out h slot (Received h port slot d ∷ past) ≡ handed_out h slot past ++ d ∷ []
received_here h port slot d past = cond-true (h == h && (slot == slot)) (handed_out h slot past ++ d ∷ []) (handed_out h slot past) (same_pair h slot)

received_there : (h port slot s : ℕ) (d : Datagram) (past : List Event) → (s ≡ slot → ⊥) → handed_out h s (Received h port slot d ∷ past) ≡ handed_out h s past
received_there h port slot s d past apart =
    cond-false (h == h && (slot == s)) (handed_out h s past ++ d ∷ []) (handed_out h s past) (other_pair h slot h s (λ _ e. apart e))

socket_handed : (h port slot : ℕ) (past : List Event) (a : Arrived) (waiting : List Arrived) (old new : ScriptSocket) (text_old text_new : List ℕ) →
    TellsSocket h slot past old → old.queue.items ≡ a ∷ waiting → HandsOut h port a waiting old new text_old text_new →
    TellsSocket h slot (Received h port slot a.datagram ∷ past) new
socket_handed h port slot past a waiting old new text_old text_new t items out =
    let here = received_here h port slot a.datagram past in
    let front : queue h slot past ≡ a.datagram ∷ map (λ (x : Arrived). x.datagram) waiting =
    sym t.queue_is ∙ ap (λ (q : List Arrived). map (λ (x : Arrived). x.datagram) q) items in
    let one_more : length (handed_out h slot (Received h port slot a.datagram ∷ past)) ≡ suc (length (handed_out h slot past)) =
    ap (λ (ds : List Datagram). length ds) here ∙ length_push (handed_out h slot past) a.datagram ∙ add-one (length (handed_out h slot past)) in
    let rest : queue h slot (Received h port slot a.datagram ∷ past) ≡ map (λ (x : Arrived). x.datagram) waiting =
    ap (λ n. drop n (arrived_datagrams h slot past)) one_more
    ∙ drop_next (length (handed_out h slot past)) (arrived_datagrams h slot past) a.datagram (map (λ (x : Arrived). x.datagram) waiting) front in
    let bytes : queued h slot past ≡ length a.datagram.payload + sum_by (λ (d : Datagram). length d.payload) (map (λ (x : Arrived). x.datagram) waiting) =
    ap (λ (ds : List Datagram). sum_by (λ (d : Datagram). length d.payload) ds) front
    ∙ sum_by-cons (λ (d : Datagram). length d.payload) a.datagram (map (λ (x : Arrived). x.datagram) waiting) in
    let left : queued h slot (Received h port slot a.datagram ∷ past) ≡ sum_by (λ (d : Datagram). length d.payload) (map (λ (x : Arrived). x.datagram) waiting) =
    ap (λ (ds : List Datagram). sum_by (λ (d : Datagram). length d.payload) ds) rest in
    record {
      slot_is = out.slot_same ∙ t.slot_is;
      port_is = out.port_same ∙ t.port_is;
      sndbuf_is = out.sndbuf_same ∙ t.sndbuf_is;
      rcvbuf_is = out.rcvbuf_same ∙ t.rcvbuf_is;
      queue_is = ap (λ (q : List Arrived). map (λ (x : Arrived). x.datagram) q) out.queue_is ∙ sym rest;
      queued_is = omega (arith, out.queued_is, t.queued_is, bytes, left);
      got_is = out.got_is ∙ ap (λ (ds : List Datagram). ds ++ a.datagram ∷ []) t.got_is ∙ sym here;
      within = subst (λ n. n ≤ length (arrived_datagrams h slot past)) (sym one_more)
          (drop_short (length (handed_out h slot past)) (arrived_datagrams h slot past) a.datagram (map (λ (x : Arrived). x.datagram) waiting) front);
    }

-- the first of a queue, by its datagram
record IsFront (q : List Arrived) (d : Datagram) : Type 0 where
  pub a : Arrived
  pub rest : List Arrived
  pub items_are : q ≡ a ∷ rest
  pub datagram_is : a.datagram ≡ d

front : (q : List Arrived) (d : Datagram) (waiting : List Datagram) → map (λ (x : Arrived). x.datagram) q ≡ d ∷ waiting → IsFront q d
front [] d waiting is = cc
front (a ∷ rest) d waiting is = record { a = a; rest = rest; items_are = refl; datagram_is = cc }

-- what a socket's hand_out promises where a datagram waits
abbrev pub HandsSome : (h port : ℕ) → (x y : ScriptSocket) → (text_old text_new : List ℕ) → Result Bool Memory → Type 0
HandsSome h port x y text_old text_new r = (a : Arrived) (waiting : List Arrived) → x.queue.items ≡ a ∷ waiting →
    IfOk r (λ some. (some ≡ true) × HandsOut h port a waiting x y text_old text_new)

-- the host after its socket x at a slot handed out a datagram, and is y
pub handed : (h port slot i : ℕ) (past : List Event) (d : Datagram) (waiting : List Datagram) (old new : ScriptHost)
    (x y : ScriptSocket) (text_old text_new : List ℕ) (r : Result Bool Memory) →
    TellsHost h past old → slot < next_slot h past → i ≡ slot → x ≡ get_or old.sockets.items i x → queue h slot past ≡ d ∷ waiting →
    new.sockets.items ≡ set old.sockets.items i y → new.holders ≡ old.holders → new.map ≡ old.map → HandsSome h port x y text_old text_new r →
    IfOk r (λ some. (some ≡ true) × TellsHost h (Received h port slot d ∷ past) new)
handed h port slot i past d waiting old new x y text_old text_new (Err e) t in_range at x_is is sockets_are holders_same map_same hands = tt
handed h port slot i past d waiting old new x y text_old text_new (Ok some) t in_range at x_is is sockets_are holders_same map_same hands =
    let socket = t.sockets_are slot in_range x (found_at slot i old x at x_is) in
    let first = front x.queue.items d waiting (socket.queue_is ∙ is) in
    let out = hands first.a first.rest first.items_are in (
      out.0,
      subst (λ e. TellsHost h (Received h port slot e ∷ past) new) first.datagram_is
          (host_replaced h slot past (Received h port slot first.a.datagram ∷ past) old new y t in_range
          (record {
            slots = refl;
            holders = λ q. refl;
            map_same = refl;
            marks = λ q. refl;
            others = λ s apart. record { binds = λ choose. refl; came = refl; left = received_there h port slot s first.a.datagram past apart };
          })
          (places slot i old new y at sockets_are holders_same map_same)
          (socket_handed h port slot past first.a first.rest x y text_old text_new socket first.items_are out.1)),
    )

-- the line of the datagram
pub handed_text : (h port slot i : ℕ) (past : List Event) (d : Datagram) (waiting : List Datagram) (old : ScriptHost)
    (x y : ScriptSocket) (text_old text_new : List ℕ) (r : Result Bool Memory) →
    TellsHost h past old → slot < next_slot h past → i ≡ slot → x ≡ get_or old.sockets.items i x → queue h slot past ≡ d ∷ waiting →
    text_old ≡ lines past → HandsSome h port x y text_old text_new r → OnOk r (text_new ≡ lines (Received h port slot d ∷ past))
handed_text h port slot i past d waiting old x y text_old text_new (Err e) t in_range at x_is is text_is hands = tt
handed_text h port slot i past d waiting old x y text_old text_new (Ok some) t in_range at x_is is text_is hands =
    let socket = t.sockets_are slot in_range x (found_at slot i old x at x_is) in
    let first = front x.queue.items d waiting (socket.queue_is ∙ is) in
    let a = first.a in
    let out = hands first.a first.rest first.items_are in
    let from : a.from ≡ host_at a.datagram.from = omega (arith, a.addressed) in
    subst (λ (e : Datagram). text_new ≡ lines (Received h port slot e ∷ past)) first.datagram_is
    (out.1.text_is ∙ ap (λ (l : List ℕ). l ++ recv_line h port a.from a.datagram.sport a.datagram.payload) text_is
    ∙ ap (λ k. lines past ++ recv_line h port k a.datagram.sport a.datagram.payload) from)

-- no datagram, no queue
no_queue : (q : List Arrived) → map (λ (x : Arrived). x.datagram) q ≡ [] → q ≡ []
no_queue [] is = refl
no_queue (a ∷ rest) is = cc

-- a socket that was looked at, and nothing more
socket_kept : (h slot : ℕ) (past : List Event) (old new : ScriptSocket) (text_old text_new : List ℕ) → TellsSocket h slot past old →
    KeepsAll old new text_old text_new → TellsSocket h slot past new
socket_kept h slot past old new text_old text_new t k = record {
  slot_is = k.slot_same ∙ t.slot_is;
  port_is = k.port_same ∙ t.port_is;
  sndbuf_is = k.sndbuf_same ∙ t.sndbuf_is;
  rcvbuf_is = k.rcvbuf_same ∙ t.rcvbuf_is;
  queue_is = ap (λ (q : List Arrived). map (λ (x : Arrived). x.datagram) q) k.queue_same ∙ t.queue_is;
  queued_is = k.queued_same ∙ t.queued_is;
  got_is = k.got_same ∙ t.got_is;
  within = t.within;
}

-- the host after its socket x at a slot had nothing to hand out, and is y
pub looked : (h slot i : ℕ) (past : List Event) (old new : ScriptHost) (x y : ScriptSocket) (text_old text_new : List ℕ) (r : Result Bool Memory) →
    TellsHost h past old → slot < next_slot h past → i ≡ slot → x ≡ get_or old.sockets.items i x → queue h slot past ≡ [] →
    new.sockets.items ≡ set old.sockets.items i y → new.holders ≡ old.holders → new.map ≡ old.map →
    (x.queue.items ≡ [] → IfOk r (λ some. (some ≡ false) × KeepsAll x y text_old text_new)) →
    IfOk r (λ some. (some ≡ false) × TellsHost h past new)
looked h slot i past old new x y text_old text_new (Err e) t in_range at x_is empty sockets_are holders_same map_same keeps = tt
looked h slot i past old new x y text_old text_new (Ok some) t in_range at x_is empty sockets_are holders_same map_same keeps =
    let socket = t.sockets_are slot in_range x (found_at slot i old x at x_is) in
    let out = keeps (no_queue x.queue.items (socket.queue_is ∙ empty)) in (
      out.0,
      host_replaced h slot past past old new y t in_range
          (record {
            slots = refl;
            holders = λ q. refl;
            map_same = refl;
            marks = λ q. refl;
            others = λ s apart. record { binds = λ choose. refl; came = refl; left = refl };
          })
          (places slot i old new y at sockets_are holders_same map_same) (socket_kept h slot past x y text_old text_new socket out.1),
    )
