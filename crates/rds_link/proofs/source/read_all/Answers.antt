use Rattle.std.proofs.lemmas.Grind.{common_steps}
use Rattle.std.proofs.Common.{arith, rules, ℕ, Ok, ap}
use Rattle.rds_link.proofs.Loops.{at_end}
use Rattle.rds_link.proofs.source.read_all.Goals as goal

pub returns-then-count-eq0-clause-end : goal.returns-then-count-eq0-clause-end
returns-then-count-eq0-clause-end g c below =
    let took = c.in-Ok.ensures {u = tt} in
    let none = c.if-count-eq0.true in
    at_end _ _ _ _ _ c.in-Ok.count none c.loop-piece.invariant.handed (took.end (ap (λ (n : ℕ). Ok n) none)) took.bytes

pub returns-in-Err-clause-bytes : goal.returns-in-Err-clause-bytes
returns-in-Err-clause-bytes g c = search rules

pub returns-in-Err-clause-end : goal.returns-in-Err-clause-end
returns-in-Err-clause-end g c = search rules

pub slice_bounds-read-end : goal.slice_bounds-read-end
slice_bounds-read-end g c = search rules

pub read-requires : goal.read-requires
read-requires g c = search rules

pub returns-then-count-eq0-clause-bytes : goal.returns-then-count-eq0-clause-bytes
returns-then-count-eq0-clause-bytes g c = grind (arith, common_steps)

pub returns-then-count-eq0-clause-left : goal.returns-then-count-eq0-clause-left
returns-then-count-eq0-clause-left g c = search rules

pub loop-piece-preserved : goal.loop-piece-preserved
loop-piece-preserved g c = grind (arith, common_steps)
