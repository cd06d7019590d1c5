use Rattle.std.proofs.Common.{arith}
use Rattle.rds_wire.specs.DecodingLaws.{take-number_4}
use Rattle.rds_wire.proofs.ext.number.Goals as goal

pub returns-clause-found : goal.returns-clause-found
returns-clause-found c = (omega arith, take-number_4 c.args.bytes.now c.read_u32.result (omega arith) (λ i. omega (arith, c.type_inv.bytes i)) c.read_u32.ensures)
