use Rattle.std.proofs.Common.{◌≡◌, length, arith}
use Rattle.rds_play_mesh.specs.Places.{triangle}
use Rattle.rds_play_mesh.proofs.Stepping.{all_new}
use Rattle.rds_play_mesh.proofs.mesh.Mesh.new.Goals as goal

pub returns : goal.returns
returns c =
    let full : length c.loop-high.joints.items ≡ triangle c.args.count =
    (let same = c.loop-high.invariant.0 in grind arith) in
    all_new c.args.count c.args.limit c.loop-high.joints.items full c.loop-high.invariant.1
