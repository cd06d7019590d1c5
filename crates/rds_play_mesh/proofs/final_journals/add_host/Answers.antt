use Rattle.std.proofs.Common.{◌≡◌, ℕ, suc, ◌+◌, ◌<◌, List, Vec, [], ◌∷◌, ◌++◌, length, map, get_or, set, sym, ◌∙◌, ap, subst, arith}
use Rattle.std.specs.Global.{Global}
use Rattle.std.proofs.lemmas.List.{length_push}
use Rattle.std.proofs.lemmas.Iterator.Adapters.{YieldsList-from_vec}
use Rattle.std.proofs.lemmas.Iterator.Consumers.{YieldsList-end, YieldsList-turn}
use Rattle.rds_model.specs.Log.{Log}
use Rattle.rds_text.specs.FinalState.{FinalJournal}
use Rattle.rds_text.specs.FinalViews.{side_view}
use Rattle.rds_play_mesh.specs.Ends.{end_at}
use Rattle.rds_play_mesh.specs.FinalJournals.{HoldJournals, journal_with, journals_below}
use Rattle.rds_play_mesh.proofs.FinalJournals.{AreHalfway, first_past, halfway_end, halfway_more, halfway_start, other_more, second_past, side_push}
use Rattle.rds_play_mesh.proofs.final_journals.add_host.Goals as goal

pub loop-joint-init : goal.loop-joint-init
loop-joint-init c = (
  c.new-row.ensures.len,
  c.requires.below,
  λ m joined hold. (ap (map side_view) c.new-row.ensures.items, halfway_start c.args.high m c.args.rows.now.items hold),
)

pub index_mut-requires : goal.index_mut-requires
index_mut-requires c =
    let turn = YieldsList-turn (YieldsList-from_vec c.args.joints.items c.into_iter-joint-iterator.ensures.into_iter_gives.0 (c.into_iter-joint-iterator.ensures.into_iter_gives.1 ∙ c.args.joints.ok.0)) c.loop-joint.yielded c.loop-joint.joint-iterator c.loop-joint.yielded_by c.next.result c.next.new.self c.in-Some.joint c.in-Some.is c.next.ensures.steps in
    omega (arith, turn.0, c.args.joints.ok.0, c.requires.joined, c.loop-joint.invariant.0, c.loop-joint.invariant.1, c.len-low.ensures)

pub overflow_cast-low : goal.overflow_cast-low
overflow_cast-low c =
    let turn = YieldsList-turn (YieldsList-from_vec c.args.joints.items c.into_iter-joint-iterator.ensures.into_iter_gives.0 (c.into_iter-joint-iterator.ensures.into_iter_gives.1 ∙ c.args.joints.ok.0)) c.loop-joint.yielded c.loop-joint.joint-iterator c.loop-joint.yielded_by c.next.result c.next.new.self c.in-Some.joint c.in-Some.is c.next.ensures.steps in
    omega (arith, turn.0, c.args.joints.ok.0, c.requires.joined, c.requires.high, c.loop-joint.invariant.0, c.len-low.ensures)

pub loop-joint-preserved : goal.loop-joint-preserved
loop-joint-preserved c =
    let n = length c.loop-joint.yielded in
    let low = c.len-low.result in
    let high = c.args.high in
    let x = c.in-Some.joint in
    let rows = c.loop-joint.rows.items in
    let row = c.loop-joint.row.items in
    let was = c.index_mut.result.now in
    let first : ℕ × Log = (c.address.result, c.into_journals-first.result.0) in
    let second : ℕ × Log = (c.address-in-loop-joint.result, c.into_journals-first.result.1) in
    let turn = YieldsList-turn (YieldsList-from_vec c.args.joints.items c.into_iter-joint-iterator.ensures.into_iter_gives.0 (c.into_iter-joint-iterator.ensures.into_iter_gives.1 ∙ c.args.joints.ok.0)) c.loop-joint.yielded c.loop-joint.joint-iterator c.loop-joint.yielded_by c.next.result c.next.new.self x c.in-Some.is c.next.ensures.steps in
    let low_is : low ≡ n = c.len-low.ensures ∙ c.loop-joint.invariant.0 in
    let low_in : low < high = omega (arith, turn.0, low_is, c.args.joints.ok.0, c.requires.joined) in
    let size : length rows ≡ high = sym c.loop-joint.rows.ok.0 ∙ c.loop-joint.invariant.1 in
    let at : x ≡ get_or c.args.joints.items low x = subst (λ i. x ≡ get_or c.args.joints.items i x) (sym low_is) turn.1 in
    let pushed : c.push.new.self.items ≡ was.items ++ first ∷ [] = c.in_ok-push.ensures.items in
    let added : c.push-in-loop-joint.new.self.items ≡ row ++ second ∷ [] = c.in_ok-push-2.ensures.items in
    let count = length_push c.loop-joint.yielded x in
    let more : suc low ≡ length (c.loop-joint.yielded ++ x ∷ []) = omega (arith, count, low_is) in (
      omega (arith, c.in_ok-push-2.ensures.len, c.loop-joint.invariant.0, count),
      c.loop-joint.invariant.1,
      λ m joined hold.
          let before = c.loop-joint.invariant.2 m joined hold in
          let is = joined low low_in x at in
          let own : map side_view row ≡ journals_below low high m = before.0 ∙ ap (λ i. journals_below i high m) (sym low_is) in
          let half : AreHalfway low high m rows = subst (λ i. AreHalfway i high m rows) (sym low_is) before.1 in (
            ap (map side_view) added
                ∙ side_push row second low (end_at high low m).past c.address-in-loop-joint.ensures (c.into_journals-first.ensures.second ∙ second_past low high m x low_in is)
                ∙ ap (λ (l : List FinalJournal). l ++ journal_with high low m ∷ []) own
                ∙ sym (other_more low high m (λ e. absurd (omega (arith, e, low_in))))
                ∙ ap (λ i. journals_below i high m) more,
            subst (λ i. AreHalfway i high m (set rows low c.push.new.self)) more
                (halfway_more low high m rows was c.push.new.self first low_in size c.index_mut.ensures.value pushed c.address.ensures
                (c.into_journals-first.ensures.first ∙ first_past low high m x low_in is) half),
          ),
    )

pub returns-clause-count : goal.returns-clause-count
returns-clause-count c = omega (arith, c.in_ok-push-3.ensures.len, c.loop-joint.invariant.1)

pub returns-clause-journals : goal.returns-clause-journals
returns-clause-journals c = λ m joined hold.
    let high = c.args.high in
    let rows = c.loop-joint.rows.items in
    let all = YieldsList-end (YieldsList-from_vec c.args.joints.items c.into_iter-joint-iterator.ensures.into_iter_gives.0 (c.into_iter-joint-iterator.ensures.into_iter_gives.1 ∙ c.args.joints.ok.0)) c.loop-joint.yielded c.loop-joint.joint-iterator c.loop-joint.yielded_by c.next.result c.next.new.self c.in-None.is c.next.ensures.steps in
    let n : length c.loop-joint.yielded ≡ high = all.1 ∙ sym c.args.joints.ok.0 ∙ c.requires.joined in
    let size : length rows ≡ high = sym c.loop-joint.rows.ok.0 ∙ c.loop-joint.invariant.1 in
    let before = c.loop-joint.invariant.2 m joined hold in
    let items : c.push-2.new.self.items ≡ rows ++ c.loop-joint.row ∷ [] = c.in_ok-push-3.ensures.items in
    let next : suc high ≡ high + 1 = omega arith in
    subst (λ n. HoldJournals n m c.push-2.new.self.items) next
    (subst (λ (l : List (Vec (ℕ × Log) Global)). HoldJournals (suc high) m l) (sym items)
    (halfway_end high m rows c.loop-joint.row size (before.0 ∙ ap (λ i. journals_below i high m) n) (subst (λ i. AreHalfway i high m rows) n before.1)))
