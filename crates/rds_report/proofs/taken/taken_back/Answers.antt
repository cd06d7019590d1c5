use Rattle.std.proofs.Common.{◌≡◌, ◌+◌, ◌-◌, ◌∙◌, ◌∷◌, ℕ, length, arith, sym, ap, subst}
use Rattle.std.proofs.lemmas.List.{same_from_push}
use Rattle.rds_report.specs.TakenBackWalk.{IsWalk, before, acknowledgements}
use Rattle.rds_report.proofs.Steps.{before_none, before_more, before_all}
use Rattle.rds_report.proofs.Walked.{walk_end, length-acknowledgements}
use Rattle.rds_report.proofs.taken.taken_back.Goals as goal

pub loop-acked-init : goal.loop-acked-init
loop-acked-init c =
    let past = c.args.journal.now.past in
    let whole = before_all past c.len-i.result c.len-i.ensures.len in
    let acks = c.in_ok-acks.acks in
    let long : length acks.items ≡ length past = ap length c.in_ok-acks.ensures ∙ length-acknowledgements past in
    record {
      walked = subst (IsWalk past c.in_ok-walk.walk) (sym whole) c.in_ok-walk.ensures;
      acks = c.in_ok-acks.ensures ∙ sym (ap acknowledgements whole);
      count = omega (arith, acks.ok, long, c.len-i.ensures.len);
      few = omega (arith, c.len-i.ensures.len);
    }

pub loop-acked-preserved : goal.loop-acked-preserved
loop-acked-preserved c =
    let all = c.args.journal.now.past in
    let i = c.loop-acked.i in
    let j = i - 1 in
    let e = c.in-Some-at.entry.now in
    let count : c.pop.new.self.len + 1 ≡ i = omega (arith, c.in-Some.ensures.len, c.loop-acked.invariant.count) in
    let next : i ≡ j + 1 = omega (arith, count) in
    let more : before i all ≡ e ∷ before j all = ap (λ (k : ℕ). before k all) next ∙ before_more all j e (sym c.in-Some-at.ensures) in
    let same = same_from_push c.pop.new.self.items (acknowledgements (before j all)) c.in-Some.acked _
    (sym c.in-Some.ensures.items ∙ c.loop-acked.invariant.acks ∙ ap acknowledgements more) in
    record {
      walked = c.in_ok-pass.ensures all (before j all) (subst (IsWalk all c.loop-acked.walk) more c.loop-acked.invariant.walked) same.1;
      acks = same.0;
      count = omega (arith, count);
      few = let few = c.loop-acked.invariant.few in omega (arith, few);
    }

pub returns : goal.returns
returns c =
    let all = c.args.journal.now.past in
    let empty_acks = rw c.in_default.is at c.pop.ensures.cases in
    let none : c.loop-acked.i ≡ 0 = omega (arith, empty_acks.0, c.loop-acked.invariant.count) in
    let empty = ap (λ (k : ℕ). before k all) none ∙ before_none all in
    walk_end all c.loop-acked.walk (subst (IsWalk all c.loop-acked.walk) empty c.loop-acked.invariant.walked)
