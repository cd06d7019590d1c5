use Rattle.rds_wire.specs.DecodingLaws.{header_of, header_bytes-header_of, IsHeader-header_of}
use Rattle.rds_wire.specs.HeaderLaws.{length-header_bytes, IsBytes-header_bytes, header_bytes-injective}
use Rattle.rds_wire.proofs.laws.one_header.Goals as goal

pub returns : goal.returns
returns c = record {
  bytes = λ h is. (length-header_bytes h is, IsBytes-header_bytes h is);
  some = λ b len bytes. (header_of b, IsHeader-header_of b len bytes, header_bytes-header_of b len bytes);
  only = header_bytes-injective;
}
