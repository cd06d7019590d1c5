use Rattle.std.proofs.Common.{[]}
use Rattle.rds_host.proofs.ToldLines.{ToldUpTo}
use Rattle.rds_host.proofs.settling.settle_slot.Given as goal

abbrev pub invariant-loop-i : goal.invariant-loop-i
invariant-loop-i g l = ToldUpTo l.i [] l.fn.closed l.closed l.fn.lines l.lines
