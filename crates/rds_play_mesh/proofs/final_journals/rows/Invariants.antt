use Rattle.std.proofs.Common.{◌≡◌, ◌+◌, drop, vec_len}
use Rattle.rds_play_mesh.specs.FinalJournals.{HoldJournals}
use Rattle.rds_play_mesh.specs.Places.{triangle}
use Rattle.rds_play_mesh.proofs.final_journals.rows.Given as goal

abbrev pub invariant-loop-high : goal.invariant-loop-high
invariant-loop-high l =
    (vec_len l.rows ≡ l.high)
    × (vec_len l.joints + triangle l.high ≡ triangle l.fn.count)
    × (l.joints.items ≡ drop (triangle l.high) l.fn.joints.items)
    × HoldJournals l.high (record { count = l.fn.count; joints = l.fn.joints.items }) l.rows.items
