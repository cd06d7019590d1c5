use Rattle.std.proofs.Common.{rules}
use Rattle.rds_line_channel.proofs.channel.Channel.relieve.Goals as goal

pub returns-clause-none : goal.returns-clause-none
returns-clause-none g c = search rules

pub returns-clause-words : goal.returns-clause-words
returns-clause-words g c = search rules
