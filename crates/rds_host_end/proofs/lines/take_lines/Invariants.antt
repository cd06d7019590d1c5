use Rattle.std.proofs.Common.{◌≡◌, ◌-◌, All, map, is_ok, true}
use Rattle.rds_text.specs.FinalViews.{side_view}
use Rattle.rds_host.specs.Held.{ends_in}
use Rattle.rds_line.specs.Keeps.{KeepsLine}
use Rattle.rds_host_end.specs.Columns.{rows_left}
use Rattle.rds_host_end.specs.Cuts.{HasCut}
use Rattle.rds_host_end.specs.Risen.{StaysRisen}
use Rattle.rds_host_end.specs.Sides.{line_side}
use Rattle.rds_host_end.proofs.lines.take_lines.Given as goal

abbrev pub invariant-loop-line : goal.invariant-loop-line
invariant-loop-line g l =
    All (KeepsLine (λ w. w.published)) l.yielded
    × All HasCut l.yielded
    × (is_ok l.all ≡ true →
    (map side_view l.left.journals.items ≡ map line_side l.yielded)
    × (l.left.orders.items ≡ map (λ line. (line.orders, line.map)) l.yielded)
    × (rows_left l.left.boxes.items ≡ map (λ line. line.boxes) l.yielded)
    × (l.left.ports.items ≡ map (λ line. line.ports) l.yielded)
    × (l.left.words.items ≡ map (λ line. line.words) l.yielded))
    × (g.W.Wire.out l.wire ≡ g.W.Wire.out l.fn.wire - ends_in l.yielded)
    × StaysRisen (g.W.Wire.counted l.fn.wire).faults (g.W.Wire.counted l.wire).faults
