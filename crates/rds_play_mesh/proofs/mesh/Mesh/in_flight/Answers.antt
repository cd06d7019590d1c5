use Rattle.std.proofs.Common.{rules}
use Rattle.rds_play_mesh.proofs.mesh.Mesh.in_flight.Goals as goal

pub returns : goal.returns
returns c = search rules
