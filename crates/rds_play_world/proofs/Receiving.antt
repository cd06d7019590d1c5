-- A receive, by whether a datagram waits.
use Rattle.std.proofs.Common.{◌≡◌, ℕ, Bool, true, false, Result, Ok, List, [], ◌∷◌, ◌++◌, ap}
use Rattle.std.proofs.lemmas.Bool.{both_ways}
use Rattle.rds_model.specs.declared.order.Datagram.{Datagram}
use Rattle.rds_text.specs.Lines.{recv_none_line}
use Rattle.rds_history.specs.Events.{Event, Received}
use Rattle.rds_history.specs.Mark.{update_mark}
use Rattle.rds_history.specs.Recv.{hand_out}
use Rattle.rds_history.specs.Sockets.{queue}
use Rattle.rds_play_world.specs.declared.stop.Stop.{Stop}
use Rattle.rds_play_world.specs.Coming.{Comes}
use Rattle.rds_play_world.specs.Telling.{State, Tells, none_waits}
use Rattle.rds_play_world.proofs.Comings.{comes_printed}

-- a receive that was handed a datagram
pub received_some : (limit hosts h port slot : ℕ) (past : List Event) (q : List Datagram) (some : Bool) (r : Result (Unit {0}) Stop) (s t : State) →
    some ≡ true → queue h slot past ≡ q →
    (queue h slot past ≡ [] → (some ≡ false) × Tells limit hosts past s) →
    ((d : Datagram) (waiting : List Datagram) → queue h slot past ≡ d ∷ waiting → (some ≡ true) × Tells limit hosts (Received h port slot d ∷ past) s) →
    ((d : Datagram) → Tells limit hosts (Received h port slot d ∷ past) s → Comes limit hosts (Ok (update_mark h port slot (Received h port slot d ∷ past))) r t) →
    Comes limit hosts (hand_out q h port slot past) r t
received_some limit hosts h port slot past [] some r s t on is none handed mark = absurd (both_ways some (none is).0 on)
received_some limit hosts h port slot past (d ∷ waiting) some r s t on is none handed mark = mark d (handed d waiting is).1

-- a receive that found nothing
pub received_none : (limit hosts h port slot : ℕ) (past : List Event) (q : List Datagram) (some : Bool) (s : State) (text : List ℕ) →
    some ≡ false → queue h slot past ≡ q →
    (queue h slot past ≡ [] → (some ≡ false) × Tells limit hosts past s) →
    ((d : Datagram) (waiting : List Datagram) → queue h slot past ≡ d ∷ waiting → (some ≡ true) × Tells limit hosts (Received h port slot d ∷ past) s) →
    text ≡ s.text ++ recv_none_line h port →
    Comes {A = Unit {0}} limit hosts (hand_out q h port slot past) (Ok tt) (record s { text = text })
received_none limit hosts h port slot past [] some s text off is none handed text_is =
    comes_printed none_waits limit hosts past (recv_none_line h port) (tt {0}) s (record s { text = text }) (none is).1 (ap (λ (l : List ℕ). record s { text = l }) text_is)
received_none limit hosts h port slot past (d ∷ waiting) some s text off is none handed text_is = absurd (both_ways some off (handed d waiting is).0)
