use Rattle.std.proofs.Common.{◌≡◌, None}
use Rattle.rds_bench_hosts.proofs.socket.sends.sends.Given as goal

abbrev pub invariant-loop-i : goal.invariant-loop-i
invariant-loop-i g l = l.socket.told ≡ None
