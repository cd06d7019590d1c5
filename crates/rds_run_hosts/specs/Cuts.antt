-- Private: it serves the contracts of the private functions that count the cuts of a script. Source: this project's own.
use Rattle.std.specs.Prelude.{◌≤◌, ℕ, Bool, true, false, List, Option, Some, None}
use Rattle.rds_script.specs.declared.script.Command.{Command}
use Rattle.rds_script.specs.declared.script.Command.TheVariants.{Cut}
use Rattle.rds_script.specs.declared.script.Placed.{Placed}
use Rattle.rds_script.specs.declared.script.TheConstants.{MAX_CUTS}
use Rattle.rds_run_hosts.specs.Streams.{cuts_between}

-- whether the command is a cut
abbrev pub is_cut : Command → Bool
is_cut (Cut host to) = true
is_cut _ = false

-- what is given here, where the command is a cut
abbrev pub only_cut : Command → Placed → Option Placed
only_cut (Cut host to) placed = Some placed
only_cut _ placed = None

-- the command, if it is a cut
abbrev pub cut_of : Placed → Option Placed
cut_of placed = only_cut placed.command placed

-- no two hosts have more cuts between them than a script may have
abbrev pub AreFewCuts : List Placed → Type 0
AreFewCuts commands = (low high : ℕ) → cuts_between low high commands ≤ MAX_CUTS
