use Rattle.std.proofs.Common.{rules}
use Rattle.rds_line_channel.proofs.channel.give_up.Goals as goal

pub returns-clause-streams : goal.returns-clause-streams
returns-clause-streams g c = search rules

pub returns-clause-out : goal.returns-clause-out
returns-clause-out g c = search rules
