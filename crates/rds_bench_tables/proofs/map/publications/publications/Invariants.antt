use Rattle.std.proofs.Common.{◌≡◌, length}
use Rattle.rds_bench_tables.proofs.map.publications.publications.Given as goal

abbrev pub invariant-loop : goal.invariant-loop
invariant-loop g l = length (g.W.MapWriter.published l.writer) ≡ l.counter
