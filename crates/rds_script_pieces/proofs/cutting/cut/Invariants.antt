use Rattle.std.proofs.Common.{◌≡◌, ◌++◌, length}
use Rattle.std.specs.List.{AllByRecursion, concat}
use Rattle.rds_script_pieces.specs.Pieces.{EndsLine, contents}
use Rattle.rds_script_pieces.proofs.cutting.cut.Given as goal

abbrev pub invariant-loop-rest : goal.invariant-loop-rest
invariant-loop-rest l = record {
  whole : concat (contents l.pieces.items) ++ l.rest ≡ l.text;
  ended : AllByRecursion EndsLine (contents l.pieces.items);
}

abbrev pub decreases-loop-rest : goal.decreases-loop-rest
decreases-loop-rest l = length l.rest
