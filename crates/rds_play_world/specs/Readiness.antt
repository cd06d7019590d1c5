-- Whether a journal has room for the next call. Source: this project's own.
use Rattle.std.specs.Prelude.{◌≡◌, ℕ, ◌+◌, nat_lt, true, false, Result, Ok, Err, List, length}
use Rattle.rds_model.specs.declared.entry.Entry.{Entry}
use Rattle.rds_play_pair.specs.declared.error.PairError.{PairError}
use Rattle.rds_play_world.specs.declared.stop.Full.{Full}
use Rattle.rds_play_world.specs.declared.stop.Stop.{Stop}
use Rattle.rds_play_world.specs.declared.stop.Stop.TheVariants as stop

-- the journal of host h with k is the full one, and has so many entries
pub record IsFullJournal (h k entries : ℕ) (full : Full) : Type 0 where
  pub host_is : full.host ≡ h
  pub peer_is : full.peer ≡ k
  pub entries_are : full.entries ≡ entries

-- a stop since there is no memory, or for this full journal
abbrev pub IsStopAt : (h k entries : ℕ) → Stop → Type 0
IsStopAt h k entries (stop.Spent full) = IsFullJournal h k entries full
IsStopAt h k entries stop.Memory = Unit {0}

-- a stop since there is no memory
abbrev pub IsMemory : Stop → Type 0
IsMemory (stop.Spent full) = ⊥
IsMemory stop.Memory = Unit {0}

-- a call that writes no entry was stopped since there is no memory, if at all
abbrev pub LacksMemory : {A : Type 0} → Result A Stop → Type 0
LacksMemory (Ok _) = Unit {0}
LacksMemory (Err why) = IsMemory why

-- the journal of host h with k was full, or there was no memory
abbrev pub IsStopped : (limit h k : ℕ) → List Entry → Stop → Type 0
IsStopped limit h k past (stop.Spent full) = IsFullJournal h k (length past) full × (nat_lt limit (length past + 2) ≡ true)
IsStopped limit h k past stop.Memory = Unit {0}

-- a call that needs room for two more entries found it, or was stopped
abbrev pub Readies : {A : Type 0} (limit h k : ℕ) → List Entry → Result A Stop → Type 0
Readies limit h k past (Ok _) = nat_lt limit (length past + 2) ≡ false
Readies limit h k past (Err why) = IsStopped limit h k past why

-- a step that was tried where there is room fails for want of memory alone
abbrev pub or_memory : {A : Type 0} → Result A PairError → Result A Stop
or_memory (Ok x) = Ok x
or_memory (Err why) = Err stop.Memory
