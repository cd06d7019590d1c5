use Rattle.std.proofs.Common.{rules}
use Rattle.rds_conn.proofs.conn.Conn.reserve.Goals as goal

pub returns-in-Err-clause-full : goal.returns-in-Err-clause-full
returns-in-Err-clause-full c = search rules
