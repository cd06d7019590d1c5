use Rattle.std.proofs.Common.{rules}
use Rattle.rds_play_hosts.proofs.host.ScriptHost.bind_refusal.Goals as goal

pub returns-in-Some-clause-why : goal.returns-in-Some-clause-why
returns-in-Some-clause-why c = search rules
