use Rattle.std.proofs.lemmas.Grind.{common_steps}
use Rattle.std.proofs.Common.{arith, rules}
use Rattle.rds_link.proofs.memory_end.MemEndEnd.read.Goals as goal

pub returns-clause-rest : goal.returns-clause-rest
returns-clause-rest c = search rules

pub returns-clause-got : goal.returns-clause-got
returns-clause-got c = search rules

pub returns-clause-known : goal.returns-clause-known
returns-clause-known c = search rules

pub returns-then-count-eq0-clause-nothing : goal.returns-then-count-eq0-clause-nothing
returns-then-count-eq0-clause-nothing c = grind (arith, common_steps)
