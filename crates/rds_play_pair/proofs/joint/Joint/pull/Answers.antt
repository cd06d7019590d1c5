use Rattle.std.proofs.Common.{◌≡◌, ◌∙◌, ap, sym, [], None}
use Rattle.rds_play_pair.specs.Sides.{Side, of_end, with_end}
use Rattle.rds_play_pair.specs.Changes.{pulled}
use Rattle.rds_play_pair.proofs.Keeping.{across, kept_end, kept_pulled}
use Rattle.rds_play_pair.proofs.Pulling.{across_is, empty_is, none_copied}
use Rattle.rds_play_pair.proofs.JointTrying.{kept_tried}
use Rattle.rds_play_pair.proofs.joint.Joint.pull.Goals as goal

pub invariant_of-self : goal.invariant_of-self
invariant_of-self c =
    let p = c.self.inside.pair in
    let who = c.args.end in
    let made = pulled c.args.map.now in
    let idle : (of_end who p).flying ≡ [] = sym c.in_flight.ensures ∙ empty_is c.in_flight.result.now c.is_empty.result c.is_empty.ensures c.if-not-is_empty.false in
    let faced : of_end c.other.result p ≡ across who p = ap (λ e. of_end e p) c.other.ensures ∙ across_is who p in
    let there : (across who p).waiting ≡ None =
    sym (ap (λ (s : Side). s.waiting) faced) ∙ sym c.waiting.ensures ∙ none_copied c.waiting.result (sym c.is_some.ensures ∙ c.if-is_some.false) in
    kept_tried c.pull.result p c.pull.new.self (with_end who made p) c.pull.ensures.ok c.pull.ensures.err
    (kept_end who made p (kept_pulled c.args.map.now (of_end who p) (across who p) idle there) c.self.invariant)
    c.self.invariant
