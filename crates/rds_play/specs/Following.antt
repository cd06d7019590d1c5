-- What the playing of a script makes of its course. Source: this project's own.
use Rattle.std.specs.Prelude.{◌≡◌, ℕ, Result, Ok, Err, List}
use Rattle.rds_history.specs.Courses.{Course}
use Rattle.rds_history.specs.Events.{Event}
use Rattle.rds_play_world.specs.declared.stop.Stop.{Stop}
use Rattle.rds_play_world.specs.Readiness.{IsMemory, IsStopAt}

-- what is made is right for the past that the course leads to, or the stop is that of the first full journal; there may
-- always be no memory
abbrev pub FollowsCourse : {A : Type 0} → (List Event → A → Type 0) → Course → Result A Stop → Type 0
FollowsCourse IsRight (Ok past) (Ok x) = IsRight past x
FollowsCourse IsRight (Ok past) (Err why) = IsMemory why
FollowsCourse IsRight (Err full) (Ok _) = ⊥
FollowsCourse IsRight (Err full) (Err why) = IsStopAt full.host full.peer full.entries why
