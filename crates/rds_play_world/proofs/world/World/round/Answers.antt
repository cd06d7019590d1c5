use Rattle.std.proofs.Common.{◌≡◌, ℕ, ◌+◌, ◌-◌, ◌<◌, ◌≤◌, Bool, Err, List, refl, sym, ◌∙◌, ap, subst, arith}
use Rattle.std.specs.Prelude.{Result}
use Rattle.std.specs.List.{range_with_len}
use Rattle.std.proofs.lemmas.Bool.{le-ltb}
use Rattle.std.proofs.lemmas.Grind.{common_steps}
use Rattle.rds_history.specs.Courses.{Course, each}
use Rattle.rds_history.specs.Drain.{both_ways, round}
use Rattle.rds_history.specs.Events.{Event}
use Rattle.rds_history.specs.Journals.{moved_in_all}
use Rattle.rds_play_world.specs.declared.stop.Stop.{Stop}
use Rattle.rds_play_world.specs.Coming.{ComesRight}
use Rattle.rds_play_world.specs.Draining.{SaysMoved, pairs_above}
use Rattle.rds_play_world.specs.Telling.{none_waits, state}
use Rattle.rds_play_world.proofs.Eaching.{Reaches, each_pair, moved_then, range_done, range_next, reaches_more, reaches_right, right_reached}
use Rattle.rds_play_world.proofs.world.World.round.Goals as goal

pub loop-low-init : goal.loop-low-init
loop-low-init c = (
  refl,
  λ limit hosts past told. let zero : hosts ≡ hosts - 0 = omega arith in record {
    mid = past;
    same = each_pair hosts (both_ways limit) past ∙ ap (λ n. each (range_with_len 0 n) (λ low. each (pairs_above low hosts) (both_ways limit)) past) zero;
    right = record { forward = omega arith; says = sym (le-ltb (moved_in_all past) (moved_in_all past) (omega arith)) };
    told = told;
  },
)

pub returns-in_err-more-clause-count : goal.returns-in_err-more-clause-count
returns-in_err-more-clause-count c = c.in_err-more.ensures.count ∙ c.loop-low.invariant.0

pub returns-in_err-more-clause-course : goal.returns-in_err-more-clause-course
returns-in_err-more-clause-course c = λ limit hosts past told.
    let act : ℕ → List Event → Course = λ low. each (pairs_above low hosts) (both_ways limit) in
    let whole = round limit hosts past in
    let below : c.loop-low.low < hosts = subst (λ n. c.loop-low.low < n) told.count_is c.loop-low-test.true in
    let p = subst (λ (l : List ℕ). Reaches (λ mid. SaysMoved past mid c.loop-low.moved) limit hosts whole l act (state c.loop-low.self)) (range_next c.loop-low.low hosts below)
    (c.loop-low.invariant.1 limit hosts past told) in
    let same : c.from_residual.result ≡ Err c.in_err-more.field-0.0 = grind (arith, common_steps) in
    subst (λ (r : Result Bool Stop). ComesRight (SaysMoved past) none_waits limit hosts whole r (state c.round_above.new.self)) (sym same)
    (right_reached (λ mid. SaysMoved past mid c.loop-low.moved) (SaysMoved p.mid) (SaysMoved past) limit hosts whole c.loop-low.low
    (range_with_len (c.loop-low.low + 1) (hosts - (c.loop-low.low + 1))) act c.in_err-more.field-0.0 (state c.loop-low.self) (state c.round_above.new.self) (state c.round_above.new.self) p
    (c.in_err-more.ensures.course limit hosts p.mid p.told))

pub loop-low-preserved : goal.loop-low-preserved
loop-low-preserved c = (
  c.in_ok-more.ensures.count ∙ c.loop-low.invariant.0,
  λ limit hosts past told.
      let act : ℕ → List Event → Course = λ low. each (pairs_above low hosts) (both_ways limit) in
      let whole = round limit hosts past in
      let below : c.loop-low.low < hosts = subst (λ n. c.loop-low.low < n) told.count_is c.loop-low-test.true in
      let p = subst (λ (l : List ℕ). Reaches (λ mid. SaysMoved past mid c.loop-low.moved) limit hosts whole l act (state c.loop-low.self)) (range_next c.loop-low.low hosts below)
      (c.loop-low.invariant.1 limit hosts past told) in
      reaches_more (λ mid. SaysMoved past mid c.loop-low.moved) (λ mid. SaysMoved past mid c.either-moved.result) limit hosts whole c.loop-low.low
      (range_with_len (c.loop-low.low + 1) (hosts - (c.loop-low.low + 1))) act (SaysMoved p.mid) c.in_ok-more.more
      (state c.loop-low.self) (state c.round_above.new.self) p (c.in_ok-more.ensures.course limit hosts p.mid p.told)
      (λ later so. record {
        forward = omega (arith, p.right.forward, so.forward);
        says = c.either-moved.ensures ∙ moved_then (moved_in_all past) (moved_in_all p.mid) (moved_in_all later) c.loop-low.moved c.in_ok-more.more p.right.forward so.forward p.right.says so.says;
      }),
)

pub returns-clause-course : goal.returns-clause-course
returns-clause-course c = λ limit hosts past told.
    let act : ℕ → List Event → Course = λ low. each (pairs_above low hosts) (both_ways limit) in
    let whole = round limit hosts past in
    let done : hosts ≤ c.loop-low.low = (let more = c.loop-low-test.false in omega (arith, more, told.count_is)) in
    let p = subst (λ (l : List ℕ). Reaches (λ mid. SaysMoved past mid c.loop-low.moved) limit hosts whole l act (state c.loop-low.self)) (range_done c.loop-low.low hosts done)
    (c.loop-low.invariant.1 limit hosts past told) in
    reaches_right (λ mid. SaysMoved past mid c.loop-low.moved) (SaysMoved past) limit hosts whole act c.loop-low.moved (state c.loop-low.self) p p.right
