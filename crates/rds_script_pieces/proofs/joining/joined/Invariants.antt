use Rattle.std.proofs.Common.{◌≡◌, ℕ, List, length}
use Rattle.std.specs.List.{AllByRecursion}
use Rattle.std.specs.Vec.Iter.{into_iter_items, into_iter_len}
use Rattle.rds_script_pieces.specs.Parts.{AreInLines, AreRead}
use Rattle.rds_script_pieces.proofs.Halfway.{Halfway}
use Rattle.rds_script_pieces.proofs.joining.joined.Given as goal

abbrev pub invariant-loop-part : goal.invariant-loop-part
invariant-loop-part l = record {
  lines : AllByRecursion (λ p. AreInLines p.script.commands.items) (into_iter_items l.part-iterator);
  long : into_iter_len l.part-iterator ≡ length (into_iter_items l.part-iterator);
  told : (head : List ℕ) (pieces : List (List ℕ)) → AreRead head l.head_lines pieces l.fn.first l.fn.parts.items → Halfway head pieces l.whole (into_iter_items l.part-iterator);
}
