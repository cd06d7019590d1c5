-- each thread so far has kept its promise
use Rattle.std.proofs.Common.{◌≡◌, true, All}
use Rattle.rds_tcp.proofs.handles.Handles.join.Given as goal

abbrev pub invariant-loop-handle : goal.invariant-loop-handle
invariant-loop-handle g l = All (λ handle. handle.promise.0.value ≡ true) l.yielded
