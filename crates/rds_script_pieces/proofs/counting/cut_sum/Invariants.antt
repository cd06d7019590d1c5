use Rattle.std.proofs.Common.{◌≡◌, take}
use Rattle.rds_script.specs.Script.{cut_total}
use Rattle.rds_script_pieces.proofs.counting.cut_sum.Given as goal

abbrev pub invariant-loop-placed : goal.invariant-loop-placed
invariant-loop-placed l = l.sum ≡ cut_total (take l.placed-index l.commands)
