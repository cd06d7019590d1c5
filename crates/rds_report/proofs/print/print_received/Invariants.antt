use Rattle.std.proofs.Common.{◌≡◌, ◌++◌, take, string_bytes}
use Rattle.std.specs.List.{flat_map}
use Rattle.rds_report.specs.Item.{Item}
use Rattle.rds_report.specs.ItemReport.{data_lines}
use Rattle.rds_report.proofs.print.print_received.Given as goal

abbrev pub invariant-loop-item : goal.invariant-loop-item
invariant-loop-item l =
    string_bytes l.text ≡ string_bytes l.fn.text ++ flat_map (λ (i : Item). data_lines i.what) (take l.item-index l.items)
