use Rattle.std.proofs.Common.{◌≡◌, take, drop, map}
use Rattle.rds_script_pieces.specs.Parts.{lowered}
use Rattle.rds_script_pieces.proofs.joining.lower.Given as goal

abbrev pub invariant-loop-placed : goal.invariant-loop-placed
invariant-loop-placed l = record {
  done : take l.placed-index l.commands ≡ map (lowered l.by) (take l.placed-index l.fn.commands);
  left : drop l.placed-index l.commands ≡ drop l.placed-index l.fn.commands;
}
