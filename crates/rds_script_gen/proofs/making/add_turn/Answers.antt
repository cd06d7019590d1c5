use Rattle.std.proofs.Common.{arith}
use Rattle.std.proofs.lemmas.Grind.{common_steps}
use Rattle.rds_script_gen.proofs.making.add_turn.Goals as goal

pub returns-in_ok-add-2-clause-turn : goal.returns-in_ok-add-2-clause-turn
returns-in_ok-add-2-clause-turn c = grind (arith, common_steps)
