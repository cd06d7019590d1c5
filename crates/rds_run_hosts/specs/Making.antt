-- Hosts that are made beside one another. Source: this project's own.
use Rattle.std.specs.Prelude.{◌≡◌, ℕ, List, Vec, Result, Some, IfOk, length, slice_get}
use Rattle.std.specs.Global.{Global}
use Rattle.rds_wire.specs.declared.memory.Memory.{Memory}
use Rattle.rds_fmap.specs.Readers.{WriterView}
use Rattle.rds_line.specs.Line.{LineView}
use Rattle.rds_script.specs.declared.script.Placed.{Placed}
use Rattle.rds_run_callers.specs.Places.{CallerView}
use Rattle.rds_run_settling.specs.Tied.{AreTied}
use Rattle.rds_run_hosts.specs.Giving.{HasNewLines}
use Rattle.rds_run_hosts.specs.Obeyed.{AreNewPlaces, slot_count}

module _ {E : Type 0} where
  -- the caller of a host, all of whose slots are new, and the host's lines, which have no streams yet
  pub record IsParty (limit hosts host : ℕ) (commands : List Placed) (party : CallerView × Vec (LineView E WriterView) Global) : Type 0 where
    pub count : length party.0.places ≡ slot_count host commands
    pub slots : AreNewPlaces hosts host party.0.places
    pub tied : AreTied party.0.places party.1.items
    pub lines : HasNewLines limit hosts host party.1.items

  -- one for each of so many hosts, or that there is no memory for it
  pub record AreMadeBeside (limit hosts : ℕ) (commands : List Placed) (made : List (Result (CallerView × Vec (LineView E WriterView) Global) Memory)) :
      Type 0 where
    pub count : length made ≡ hosts
    pub each : (host : ℕ) (one : Result (CallerView × Vec (LineView E WriterView) Global) Memory) → slice_get made host ≡ Some one →
        IfOk one (IsParty limit hosts host commands)
