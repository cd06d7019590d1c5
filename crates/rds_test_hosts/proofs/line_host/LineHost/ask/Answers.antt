use Rattle.std.proofs.Common.{rules}
use Rattle.rds_test_hosts.proofs.line_host.LineHost.ask.Goals as goal

pub returns-clause-put : goal.returns-clause-put
returns-clause-put g c = search rules
