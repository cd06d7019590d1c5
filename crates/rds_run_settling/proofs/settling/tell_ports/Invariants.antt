use Rattle.std.proofs.Common.{◌≡◌}
use Rattle.rds_run_settling.specs.Steps.{ArePortsToldTo}
use Rattle.rds_run_settling.specs.Tied.{LineLearnsPorts}
use Rattle.rds_run_settling.proofs.settling.tell_ports.Given as goal

abbrev pub invariant-loop-slot : goal.invariant-loop-slot
invariant-loop-slot g l =
    (l.caller.places ≡ l.fn.caller.places) × LineLearnsPorts l.fn.line l.line × ArePortsToldTo l.slot l.fn.caller.places l.line
