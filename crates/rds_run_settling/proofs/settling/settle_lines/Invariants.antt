use Rattle.std.proofs.Common.{◌≡◌, ℕ, ◌<◌, Some, map, slice_get}
use Rattle.rds_fmap.specs.Readers.{WriterView}
use Rattle.rds_line.specs.Line.{LineView}
use Rattle.rds_host.specs.Telling.{AreOrdersTold}
use Rattle.rds_run_callers.specs.Places.{spared}
use Rattle.rds_run_settling.specs.Tied.{LinesHear, holdings}
use Rattle.rds_run_settling.proofs.settling.settle_lines.Given as goal

abbrev pub invariant-loop-place : goal.invariant-loop-place
invariant-loop-place g l =
    (l.caller.places ≡ map spared l.fn.caller.places) × LinesHear l.fn.lines l.lines
    × ((place : ℕ) (line : LineView g.row.E.Denot WriterView) → place < l.place → slice_get l.lines place ≡ Some line →
    AreOrdersTold (holdings l.caller.places) place line)
