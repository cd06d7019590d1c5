use Rattle.std.proofs.Common.{◌≡◌}
use Rattle.rds_run_settling.specs.Steps.{AreSlotsToldTo}
use Rattle.rds_run_settling.specs.Tied.{LineHears}
use Rattle.rds_run_settling.proofs.settling.tell_line.Given as goal

abbrev pub invariant-loop-slot : goal.invariant-loop-slot
invariant-loop-slot g l =
    (l.caller.places ≡ l.fn.caller.places) × LineHears l.fn.line l.line × AreSlotsToldTo l.slot l.fn.caller.places l.fn.place l.line
