use Rattle.std.proofs.Common.{rules}
use Rattle.rds_play_hosts.proofs.recv.hand_out.Goals as goal

pub returns-clause-some : goal.returns-clause-some
returns-clause-some c = search rules
