use Rattle.std.proofs.Common.{rules}
use Rattle.rds_line_channel.proofs.streams.Streams.into_streams.Goals as goal

pub returns : goal.returns
returns g c = search rules
