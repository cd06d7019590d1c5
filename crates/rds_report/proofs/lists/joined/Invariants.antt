use Rattle.std.proofs.Common.{◌≡◌, ◌++◌, length}
use Rattle.std.specs.List.{flat_map}
use Rattle.std.specs.Vec.Iter.{into_iter_items, into_iter_len}
use Rattle.rds_report.proofs.lists.joined.Given as goal

abbrev pub invariant-loop-list : goal.invariant-loop-list
invariant-loop-list g l = record {
  long : into_iter_len l.list-iterator ≡ length (into_iter_items l.list-iterator);
  told : l.all.items ++ flat_map (λ list. list.items) (into_iter_items l.list-iterator) ≡ flat_map (λ list. list.items) l.fn.lists.items;
}
