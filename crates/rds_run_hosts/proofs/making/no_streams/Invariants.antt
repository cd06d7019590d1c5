use Rattle.std.proofs.Common.{◌≡◌, All, [], length}
use Rattle.rds_run_hosts.proofs.making.no_streams.Given as goal

abbrev pub invariant-loop : goal.invariant-loop
invariant-loop g l = (length l.lists.items ≡ l.counter) × All (λ list. list.items ≡ []) l.lists.items
