use Rattle.std.proofs.Common.{rules}
use Rattle.rds_link.proofs.memory_wire.MemWireWire.counts.Goals as goal

pub returns : goal.returns
returns c = search rules
