use Rattle.rds_play_pair.specs.Changes.{opened_at_both}
use Rattle.rds_play_pair.specs.Ends.{at_both}
use Rattle.rds_play_pair.specs.Steps.{opened}
use Rattle.rds_play_pair.specs.Inside.{end, ends}
use Rattle.rds_play_pair.proofs.Views.{seen_opened_at_both}
use Rattle.rds_play_pair.proofs.OnTheWay.{nothing_flies}
use Rattle.rds_play_pair.proofs.Keeping.{joint_opened_at_both}
use Rattle.rds_play_pair.proofs.JointTrying.{kept_tried, seen_ok}
use Rattle.rds_play_pair.proofs.joint.Joint.open.Goals as goal

pub invariant_of-self : goal.invariant_of-self
invariant_of-self c =
    let p = c.self.inside.pair in
    kept_tried c.open.result p c.open.new.self (opened_at_both p) c.open.ensures.ok c.open.ensures.err
    (joint_opened_at_both p c.self.invariant c.reading.ensures.first c.reading.ensures.second) c.self.invariant

pub returns-clause-ok : goal.returns-clause-ok
returns-clause-ok c =
    let p = c.self.inside.pair in
    let joint = c.self.invariant in
    rw (← c.self.view_is)
    (seen_ok c.open.result c.open.new.self (opened_at_both p) (at_both opened (ends p)) c.open.ensures.ok
    (seen_opened_at_both p joint.streams
    (nothing_flies p.second.rest (end p.first) p.second.waiting joint.forth) (nothing_flies p.first.rest (end p.second) p.first.waiting joint.back)
    c.reading.ensures.newest))
