use Rattle.rds_play_pair.specs.Changes.{cut_pair}
use Rattle.rds_play_pair.specs.Ends.{at_both}
use Rattle.rds_play_pair.specs.Steps.{stream_shut}
use Rattle.rds_play_pair.specs.Inside.{end, ends}
use Rattle.rds_play_pair.proofs.Views.{seen_cut}
use Rattle.rds_play_pair.proofs.OnTheWay.{nothing_flies}
use Rattle.rds_play_pair.proofs.Keeping.{joint_cut}
use Rattle.rds_play_pair.proofs.JointTrying.{kept_tried, seen_ok}
use Rattle.rds_play_pair.proofs.joint.Joint.cut.Goals as goal

pub invariant_of-self : goal.invariant_of-self
invariant_of-self c =
    let p = c.self.inside.pair in
    kept_tried c.cut.result p c.cut.new.self (cut_pair p) c.cut.ensures.ok c.cut.ensures.err
    (joint_cut p.first p.second c.reading.ensures.first c.reading.ensures.second) c.self.invariant

pub returns-clause-ok : goal.returns-clause-ok
returns-clause-ok c =
    let p = c.self.inside.pair in
    let joint = c.self.invariant in
    rw (← c.self.view_is)
    (seen_ok c.cut.result c.cut.new.self (cut_pair p) (at_both stream_shut (ends p)) c.cut.ensures.ok
    (seen_cut p (nothing_flies p.second.rest (end p.first) p.second.waiting joint.forth) (nothing_flies p.first.rest (end p.second) p.first.waiting joint.back)))
