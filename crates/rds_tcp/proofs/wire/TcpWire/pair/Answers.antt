use Rattle.std.proofs.Common.{rules}
use Rattle.rds_tcp.proofs.wire.TcpWire.pair.Goals as goal

pub returns-clause-pair : goal.returns-clause-pair
returns-clause-pair g c = search rules
