-- What the words ask for. Source: this project's own.
use Rattle.std.specs.Prelude.{ℕ, List, Option, Some, None, String}
use Rattle.std.specs.Global.{Global}
use Rattle.rds_run.specs.declared.wire.RunWire.{RunWire}
use Rattle.rds_run.specs.declared.work.Work.{Work}
use Rattle.rds_run.specs.declared.work.Work.TheVariants as work
use Rattle.rds_run.specs.GenWords.{AreGen}
use Rattle.rds_run.specs.PlayWords.{ArePlay}
use Rattle.rds_run.specs.RunWords.{AreRun}

-- the words are those of no command
pub record AreNoCommand (words : List (String Global)) : Type 0 where
  pub no_play : ArePlay words → ⊥
  pub no_run : (wire : RunWire) → AreRun words wire → ⊥
  pub no_gen : (sends seed : ℕ) → AreGen words sends seed → ⊥

-- a script is to be played, or to be run over a wire, or one is to be generated and run, or none of these
abbrev pub IsWorkOf : List (String Global) → Option Work → Type 0
IsWorkOf words (Some work.Play) = ArePlay words
IsWorkOf words (Some (work.Run wire)) = AreRun words wire
IsWorkOf words (Some (work.Gen sends seed)) = AreGen words sends seed
IsWorkOf words None = AreNoCommand words
