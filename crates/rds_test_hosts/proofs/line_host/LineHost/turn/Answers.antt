use Rattle.std.proofs.Common.{rules}
use Rattle.rds_test_hosts.proofs.line_host.LineHost.turn.Goals as goal

pub returns-clause-idle : goal.returns-clause-idle
returns-clause-idle g c = search rules
