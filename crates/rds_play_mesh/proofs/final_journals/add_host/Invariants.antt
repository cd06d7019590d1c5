use Rattle.std.proofs.Common.{◌≡◌, length, map, vec_len}
use Rattle.rds_text.specs.FinalViews.{side_view}
use Rattle.rds_play_mesh.specs.Ends.{MeshView}
use Rattle.rds_play_mesh.specs.FinalJournals.{AreJointsOf, HoldJournals, journals_below}
use Rattle.rds_play_mesh.proofs.FinalJournals.{AreHalfway}
use Rattle.rds_play_mesh.proofs.final_journals.add_host.Given as goal

abbrev pub invariant-loop-joint : goal.invariant-loop-joint
invariant-loop-joint l =
    (vec_len l.row ≡ length l.yielded)
    × (vec_len l.rows ≡ l.fn.high)
    × ((m : MeshView) → AreJointsOf l.fn.high m l.fn.joints.items → HoldJournals l.fn.high m l.fn.rows.items →
    (map side_view l.row.items ≡ journals_below (length l.yielded) l.fn.high m) × AreHalfway (length l.yielded) l.fn.high m l.rows.items)
