use Rattle.std.proofs.Common.{rules}
use Rattle.rds_play_hosts.proofs.host.ScriptHost.free.Goals as goal

pub returns-clause-told : goal.returns-clause-told
returns-clause-told c = search rules
