use Rattle.std.proofs.Common.{◌≡◌, ℕ, ◌<◌, Some, length, slice_get}
use Rattle.rds_fmap.specs.Readers.{WriterView}
use Rattle.rds_line.specs.Line.{LineView}
use Rattle.rds_run_settling.specs.Steps.{ArePortsToldTo}
use Rattle.rds_run_settling.specs.Tied.{LinesLearnPorts}
use Rattle.rds_run_settling.proofs.settling.settle_ports.Given as goal

abbrev pub invariant-loop-place : goal.invariant-loop-place
invariant-loop-place g l =
    (l.caller.places ≡ l.fn.caller.places) × LinesLearnPorts l.fn.lines l.lines
    × ((place : ℕ) (line : LineView g.row.E.Denot WriterView) → place < l.place → slice_get l.lines place ≡ Some line →
    ArePortsToldTo (length l.fn.caller.places) l.fn.caller.places line)
