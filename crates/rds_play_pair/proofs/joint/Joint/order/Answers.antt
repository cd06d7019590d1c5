use Rattle.rds_play_pair.specs.Sides.{of_end, with_end}
use Rattle.rds_play_pair.specs.Changes.{ordered}
use Rattle.rds_play_pair.specs.Ends.{with_end as with_seen}
use Rattle.rds_play_pair.specs.Steps.{ordered as ordered_seen}
use Rattle.rds_play_pair.specs.Inside.{ends}
use Rattle.rds_play_pair.proofs.Views.{seen_end, seen_ordered_at}
use Rattle.rds_play_pair.proofs.Keeping.{across, kept_end, kept_ordered}
use Rattle.rds_play_pair.proofs.JointTrying.{kept_tried, seen_ok}
use Rattle.rds_play_pair.proofs.joint.Joint.order.Goals as goal

pub invariant_of-self : goal.invariant_of-self
invariant_of-self c =
    let p = c.self.inside.pair in
    let made = ordered c.args.order.now in
    kept_tried c.order.result p c.order.new.self (with_end c.args.end made p) c.order.ensures.ok c.order.ensures.err
    (kept_end c.args.end made p (kept_ordered c.args.order.now (of_end c.args.end p) (across c.args.end p)) c.self.invariant)
    c.self.invariant

pub returns-clause-ok : goal.returns-clause-ok
returns-clause-ok c =
    let p = c.self.inside.pair in
    let made = ordered c.args.order.now in
    let seen = ordered_seen c.args.order.now in
    rw (← c.self.view_is)
    (seen_ok c.order.result c.order.new.self (with_end c.args.end made p) (with_seen c.args.end seen (ends p)) c.order.ensures.ok
    (seen_end c.args.end made seen p (seen_ordered_at c.args.end c.args.order.now p)))
