-- by computation alone
use Rattle.std.proofs.Common.{refl}
use Rattle.std.specs.Fmt.{digits}
use Rattle.rds_wire.specs.Bytes.{header_bytes, computed}
use Rattle.rds_wire.specs.Kinds.{cause}
use Rattle.rds_model.specs.Owed.{header_of}
use Rattle.rds_cong.specs.Map.{no_ports}
use Rattle.rds_history.proofs.laws.text_of_three_hosts.Goals as goal

pub returns : goal.returns
unfolding digits header_of computed header_bytes cause no_ports
returns c = refl
