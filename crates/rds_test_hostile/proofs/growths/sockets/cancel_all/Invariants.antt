use Rattle.std.proofs.Common.{◌≡◌, None}
use Rattle.rds_test_hostile.proofs.growths.sockets.cancel_all.Given as goal

abbrev pub invariant-loop : goal.invariant-loop
invariant-loop g l = l.socket.told ≡ None
