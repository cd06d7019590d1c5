use Rattle.std.proofs.Common.{◌≡◌, ◌+◌, vec_len}
use Rattle.rds_play_mesh.specs.Ends.{AreNew}
use Rattle.rds_play_mesh.proofs.mesh.add_below.Given as goal

abbrev pub invariant-loop-low : goal.invariant-loop-low
invariant-loop-low l =
    (vec_len l.joints ≡ vec_len l.fn.joints + l.low) × (AreNew l.fn.limit l.fn.joints.items → AreNew l.fn.limit l.joints.items)
