use Rattle.std.proofs.Common.{rules}
use Rattle.rds_play_mesh.proofs.place.place.Goals as goal

pub returns-then-host-peer : goal.returns-then-host-peer
returns-then-host-peer c = search rules
