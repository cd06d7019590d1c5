-- What a command leaves, by the course that it comes to. Source: this project's own.
use Rattle.std.specs.Prelude.{ℕ, Result, Ok, Err, List}
use Rattle.rds_history.specs.Events.{Event}
use Rattle.rds_history.specs.Courses.{Course}
use Rattle.rds_play_world.specs.declared.stop.Stop.{Stop}
use Rattle.rds_play_world.specs.Readiness.{IsMemory, IsStopAt}
use Rattle.rds_play_world.specs.Telling.{State, Waiting, TellsWaiting, none_waits}

-- the world tells the longer past, and the answer is right for it; or the stop is that of the first full journal; there may
-- always be no memory
abbrev pub ComesRight : {A : Type 0} → (IsRight : List Event → A → Type 0) → Waiting → (limit hosts : ℕ) → Course → Result A Stop → State → Type 0
ComesRight IsRight waiting limit hosts (Ok past) (Ok x) s = TellsWaiting waiting limit hosts past s × IsRight past x
ComesRight IsRight waiting limit hosts (Ok past) (Err why) s = IsMemory why
ComesRight IsRight waiting limit hosts (Err full) (Ok x) s = ⊥
ComesRight IsRight waiting limit hosts (Err full) (Err why) s = IsStopAt full.host full.peer full.entries why

-- the same of a call whose answer says no more
abbrev pub ComesWaiting : {A : Type 0} → Waiting → (limit hosts : ℕ) → Course → Result A Stop → State → Type 0
ComesWaiting waiting limit hosts (Ok past) (Ok _) s = TellsWaiting waiting limit hosts past s
ComesWaiting waiting limit hosts (Ok past) (Err why) s = IsMemory why
ComesWaiting waiting limit hosts (Err full) (Ok _) s = ⊥
ComesWaiting waiting limit hosts (Err full) (Err why) s = IsStopAt full.host full.peer full.entries why

-- the same between two commands
abbrev pub Comes : {A : Type 0} → (limit hosts : ℕ) → Course → Result A Stop → State → Type 0
Comes limit hosts course result s = ComesWaiting none_waits limit hosts course result s
