use Rattle.std.proofs.Common.{rules}
use Rattle.rds_tcp.proofs.wire.TcpWireWire.open.Goals as goal

pub returns-in-Ok-clause-opened : goal.returns-in-Ok-clause-opened
returns-in-Ok-clause-opened g c = search rules

pub returns-in-Err-Fault-clause-fault : goal.returns-in-Err-Fault-clause-fault
returns-in-Err-Fault-clause-fault g c = search rules
