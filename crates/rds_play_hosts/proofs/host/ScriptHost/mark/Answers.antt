use Rattle.std.proofs.Common.{arith}
use Rattle.std.proofs.lemmas.Grind.{common_steps}
use Rattle.rds_play_hosts.proofs.host.ScriptHost.mark.Goals as goal

pub returns-then-was-is-clause-told : goal.returns-then-was-is-clause-told
returns-then-was-is-clause-told c = grind (arith, common_steps)
