-- A datagram that was queued.
use Rattle.std.proofs.Common.{◌≡◌, ℕ, Result, Ok, Err, ◌+◌, ◌<◌, ◌==◌, List, [], ◌∷◌, ◌++◌, length, drop, get_or, set, refl, sym, ◌∙◌, ap, arith}
use Rattle.std.specs.Prelude.{OnOk, sum_by}
use Rattle.std.proofs.lemmas.Bool.{cond-true, cond-false, eq-eqb, ne_eqb}
use Rattle.std.proofs.lemmas.List.{append-nil, drop-append-le, length_push}
use Rattle.std.proofs.lemmas.List.Sums.{sum_by_push}
use Rattle.rds_wire.specs.declared.frame.Frame.{Frame}
use Rattle.rds_wire.specs.declared.memory.Memory.{Memory}
use Rattle.rds_model.specs.declared.entry.Entry.TheVariants.{Read}
use Rattle.rds_model.specs.declared.entry.Outcome.TheVariants as outcome
use Rattle.rds_model.specs.declared.order.Datagram.{Datagram}
use Rattle.rds_model.specs.Deliveries.{datagram_from}
use Rattle.rds_text.specs.Hosts.{address_of}
use Rattle.rds_history.specs.Events.{Event, Appended}
use Rattle.rds_history.specs.Sockets.{next_slot, delivery, arrived_datagrams, handed_out, queue, queued}
use Rattle.rds_play_hosts.specs.declared.host.ScriptHost.{ScriptHost}
use Rattle.rds_play_hosts.specs.declared.host.ScriptSocket.{ScriptSocket}
use Rattle.rds_play_hosts.specs.Receiving.{TakesIn}
use Rattle.rds_play_hosts.specs.Telling.{TellsHost, TellsSocket}
use Rattle.rds_play_hosts.proofs.OneSocket.{found_at, host_replaced, places}

came : (h k stream slot s : ℕ) (f : Frame) (past : List Event) → arrived_datagrams h s (Appended h k (Read stream f (outcome.Slot slot)) ∷ past) ≡
    arrived_datagrams h s past ++ delivery s k f (outcome.Slot slot)
came h k stream slot s f past =
    cond-true (h == h) (arrived_datagrams h s past ++ delivery s k f (outcome.Slot slot)) (arrived_datagrams h s past) (eq-eqb h h refl)

came_here : (h k stream slot : ℕ) (f : Frame) (past : List Event) → arrived_datagrams h slot (Appended h k (Read stream f (outcome.Slot slot)) ∷ past) ≡
    arrived_datagrams h slot past ++ datagram_from (address_of k) f ∷ []
came_here h k stream slot f past =
    came h k stream slot slot f past
    ∙ ap (λ (ds : List Datagram). arrived_datagrams h slot past ++ ds)
    (cond-true (slot == slot) (datagram_from (address_of k) f ∷ []) [] (eq-eqb slot slot refl))

came_there : (h k stream slot s : ℕ) (f : Frame) (past : List Event) → (s ≡ slot → ⊥) →
    arrived_datagrams h s (Appended h k (Read stream f (outcome.Slot slot)) ∷ past) ≡ arrived_datagrams h s past
came_there h k stream slot s f past apart =
    came h k stream slot s f past
    ∙ ap (λ (ds : List Datagram). arrived_datagrams h s past ++ ds)
    (cond-false (slot == s) (datagram_from (address_of k) f ∷ []) [] (ne_eqb slot s (λ e. apart (sym e))))
    ∙ append-nil (arrived_datagrams h s past)

socket_taken : (h k stream slot : ℕ) (f : Frame) (past : List Event) (old new : ScriptSocket) → TellsSocket h slot past old → TakesIn k f old new →
    TellsSocket h slot (Appended h k (Read stream f (outcome.Slot slot)) ∷ past) new
socket_taken h k stream slot f past old new t takes =
    let d : Datagram = datagram_from (address_of k) f in
    let later : List Event = Appended h k (Read stream f (outcome.Slot slot)) ∷ past in
    let here = came_here h k stream slot f past in
    let waits : queue h slot later ≡ queue h slot past ++ d ∷ [] =
    ap (λ (ds : List Datagram). drop (length (handed_out h slot past)) ds) here
    ∙ drop-append-le (length (handed_out h slot past)) (arrived_datagrams h slot past) (d ∷ []) t.within in
    let bytes : queued h slot later ≡ queued h slot past + length f.payload =
    ap (λ (ds : List Datagram). sum_by (λ (x : Datagram). length x.payload) ds) waits
    ∙ sum_by_push (λ (x : Datagram). length x.payload) (queue h slot past) d in
    let one_more : length (arrived_datagrams h slot later) ≡ length (arrived_datagrams h slot past) + 1 =
    ap (λ (ds : List Datagram). length ds) here ∙ length_push (arrived_datagrams h slot past) d in
    record {
      slot_is = takes.slot_same ∙ t.slot_is;
      port_is = takes.port_same ∙ t.port_is;
      sndbuf_is = takes.sndbuf_same ∙ t.sndbuf_is;
      rcvbuf_is = takes.rcvbuf_same ∙ t.rcvbuf_is;
      queue_is = takes.queue_is ∙ ap (λ (ds : List Datagram). ds ++ d ∷ []) t.queue_is ∙ sym waits;
      queued_is = takes.queued_is ∙ ap (λ n. n + length f.payload) t.queued_is ∙ sym bytes;
      got_is = takes.got_same ∙ t.got_is;
      within = omega (arith, t.within, one_more);
    }

-- the host after its socket x at a slot took a datagram in, and is y
pub taken : (h k stream slot i : ℕ) (f : Frame) (past : List Event) (old new : ScriptHost) (x y : ScriptSocket) (r : Result (Unit {0}) Memory) →
    TellsHost h past old → slot < next_slot h past → i ≡ slot → x ≡ get_or old.sockets.items i x →
    new.sockets.items ≡ set old.sockets.items i y → new.holders ≡ old.holders → new.map ≡ old.map → OnOk r (TakesIn k f x y) →
    OnOk r (TellsHost h (Appended h k (Read stream f (outcome.Slot slot)) ∷ past) new)
taken h k stream slot i f past old new x y (Err e) t in_range at x_is sockets_are holders_same map_same takes = tt
taken h k stream slot i f past old new x y (Ok u) t in_range at x_is sockets_are holders_same map_same takes =
    host_replaced h slot past (Appended h k (Read stream f (outcome.Slot slot)) ∷ past) old new y t in_range
    (record {
      slots = refl;
      holders = λ q. refl;
      map_same = refl;
      marks = λ q. refl;
      others = λ s apart. record { binds = λ choose. refl; came = came_there h k stream slot s f past apart; left = refl };
    })
    (places slot i old new y at sockets_are holders_same map_same)
    (socket_taken h k stream slot f past x y (t.sockets_are slot in_range x (found_at slot i old x at x_is)) takes)
