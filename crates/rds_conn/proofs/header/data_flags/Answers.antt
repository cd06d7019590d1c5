use Rattle.std.proofs.Common.{rules}
use Rattle.rds_conn.proofs.header.data_flags.Goals as goal

pub returns : goal.returns
returns c = search rules
