use Rattle.rds_play_pair.specs.Sides.{of_end, with_end}
use Rattle.rds_play_pair.specs.Changes.{passed}
use Rattle.rds_play_pair.specs.Ends.{with_end as with_seen}
use Rattle.rds_play_pair.specs.Steps.{passed as passed_seen}
use Rattle.rds_play_pair.specs.Inside.{ends}
use Rattle.rds_play_pair.proofs.Views.{seen_end, seen_passed_at}
use Rattle.rds_play_pair.proofs.Keeping.{across, kept_end, kept_passed}
use Rattle.rds_play_pair.proofs.JointTrying.{kept_tried, seen_ok}
use Rattle.rds_play_pair.proofs.joint.Joint.pass.Goals as goal

pub invariant_of-self : goal.invariant_of-self
invariant_of-self c =
    let p = c.self.inside.pair in
    let made = passed c.args.slot in
    kept_tried c.pass.result p c.pass.new.self (with_end c.args.end made p) c.pass.ensures.ok c.pass.ensures.err
    (kept_end c.args.end made p (kept_passed c.args.slot (of_end c.args.end p) (across c.args.end p)) c.self.invariant)
    c.self.invariant

pub returns-clause-ok : goal.returns-clause-ok
returns-clause-ok c =
    let p = c.self.inside.pair in
    let made = passed c.args.slot in
    let seen = passed_seen c.args.slot in
    rw (← c.self.view_is)
    (seen_ok c.pass.result c.pass.new.self (with_end c.args.end made p) (with_seen c.args.end seen (ends p)) c.pass.ensures.ok
    (seen_end c.args.end made seen p (seen_passed_at c.args.end c.args.slot p)))
