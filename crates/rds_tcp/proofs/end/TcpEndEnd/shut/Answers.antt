use Rattle.std.proofs.Common.{rules}
use Rattle.rds_tcp.proofs.end.TcpEndEnd.shut.Goals as goal

pub returns-clause-shut : goal.returns-clause-shut
returns-clause-shut c = search rules

pub stop-requires : goal.stop-requires
stop-requires c = search rules
