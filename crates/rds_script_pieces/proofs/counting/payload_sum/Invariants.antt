use Rattle.std.proofs.Common.{◌≡◌, take}
use Rattle.rds_script.specs.Script.{payload_total}
use Rattle.rds_script_pieces.proofs.counting.payload_sum.Given as goal

abbrev pub invariant-loop-placed : goal.invariant-loop-placed
invariant-loop-placed l = l.sum ≡ payload_total (take l.placed-index l.commands)
