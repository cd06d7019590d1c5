use Rattle.std.proofs.lemmas.Grind.{common_steps}
use Rattle.std.proofs.Common.{arith, rules}
use Rattle.rds_model.proofs.journal.Journal.reserve.Goals as goal

pub returns-clause-ok : goal.returns-clause-ok
returns-clause-ok c = search rules

pub returns-then-is_err-clause-full : goal.returns-then-is_err-clause-full
returns-then-is_err-clause-full c = search rules

pub invariant_of-self-2 : goal.invariant_of-self-2
invariant_of-self-2 c = grind (arith, common_steps)

pub returns-clause-full : goal.returns-clause-full
returns-clause-full c = search rules

pub returns-then-n-self-clause-spent : goal.returns-then-n-self-clause-spent
returns-then-n-self-clause-spent c = search rules

pub returns-then-n-self-clause-full : goal.returns-then-n-self-clause-full
returns-then-n-self-clause-full c = search rules
