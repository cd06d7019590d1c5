use Rattle.std.proofs.Common.{◌≡◌, vec_len}
use Rattle.rds_play_mesh.specs.Ends.{AreNew}
use Rattle.rds_play_mesh.specs.Places.{triangle}
use Rattle.rds_play_mesh.proofs.mesh.Mesh.new.Given as goal

abbrev pub invariant-loop-high : goal.invariant-loop-high
invariant-loop-high l = (vec_len l.joints ≡ triangle l.high) × AreNew l.fn.limit l.joints.items
