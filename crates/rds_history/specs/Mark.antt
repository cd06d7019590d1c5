-- The congestion of a port after its queue has changed. Source: this project's own, after rds(7).
use Rattle.std.specs.Prelude.{ℕ, Bool, true, false, List, ◌∷◌}
use Rattle.rds_cong.specs.Limit.{congested_after}
use Rattle.rds_history.specs.Events.{Event, Marked}
use Rattle.rds_history.specs.Journals.{is_marked}
use Rattle.rds_history.specs.Sockets.{queued, receive_buffer}

-- an event happens where something changes, and none where it stays
abbrev pub if_changed : (was is : Bool) → Event → List Event → List Event
if_changed true true event past = past
if_changed true false event past = event ∷ past
if_changed false true event past = event ∷ past
if_changed false false event past = past

-- the port of a slot becomes congested or free by what is queued there
abbrev pub update_mark : (h port slot : ℕ) → List Event → List Event
update_mark h port slot past =
    let was = is_marked h port past in
    let is = congested_after was (queued h slot past) (receive_buffer h slot past) in
    if_changed was is (Marked h port is (queued h slot past) (receive_buffer h slot past)) past
