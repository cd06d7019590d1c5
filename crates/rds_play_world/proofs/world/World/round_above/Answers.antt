use Rattle.std.proofs.Common.{◌≡◌, ℕ, ◌+◌, ◌-◌, ◌<◌, ◌≤◌, Bool, Err, List, refl, sym, ◌∙◌, subst, arith}
use Rattle.std.specs.Prelude.{Result}
use Rattle.std.specs.List.{range_with_len}
use Rattle.std.proofs.lemmas.Bool.{le-ltb}
use Rattle.std.proofs.lemmas.Grind.{common_steps}
use Rattle.rds_history.specs.Courses.{Course, each}
use Rattle.rds_history.specs.Drain.{both_ways}
use Rattle.rds_history.specs.Events.{Event}
use Rattle.rds_history.specs.Journals.{moved_in_all}
use Rattle.rds_play_world.specs.declared.stop.Stop.{Stop}
use Rattle.rds_play_world.specs.Coming.{ComesRight}
use Rattle.rds_play_world.specs.Draining.{SaysMoved, pairs_above}
use Rattle.rds_play_world.specs.Telling.{none_waits, state}
use Rattle.rds_play_world.proofs.Eaching.{Reaches, each_above, moved_then, range_done, range_next, reaches_more, reaches_right, right_reached}
use Rattle.rds_play_world.proofs.world.World.round_above.Goals as goal

pub loop-high-init : goal.loop-high-init
loop-high-init c = (
  refl,
  λ limit hosts past told. record {
    mid = past;
    same = each_above c.args.low hosts (both_ways limit) past;
    right = record { forward = omega arith; says = sym (le-ltb (moved_in_all past) (moved_in_all past) (omega arith)) };
    told = told;
  },
)

pub returns-in_err-more-clause-count : goal.returns-in_err-more-clause-count
returns-in_err-more-clause-count c = c.in_err-more.ensures.count ∙ c.loop-high.invariant.0

pub returns-in_err-more-clause-course : goal.returns-in_err-more-clause-course
returns-in_err-more-clause-course c = λ limit hosts past told.
    let act : ℕ → List Event → Course = λ high. both_ways limit (record { low = c.args.low; high = high }) in
    let whole = each (pairs_above c.args.low hosts) (both_ways limit) past in
    let below : c.loop-high.high < hosts = subst (λ n. c.loop-high.high < n) told.count_is c.loop-high-test.true in
    let p = subst (λ (l : List ℕ). Reaches (λ mid. SaysMoved past mid c.loop-high.moved) limit hosts whole l act (state c.loop-high.self)) (range_next c.loop-high.high hosts below)
    (c.loop-high.invariant.1 limit hosts past told) in
    let same : c.from_residual.result ≡ Err c.in_err-more.field-0.0 = grind (arith, common_steps) in
    subst (λ (r : Result Bool Stop). ComesRight (SaysMoved past) none_waits limit hosts whole r (state c.both_ways.new.self)) (sym same)
    (right_reached (λ mid. SaysMoved past mid c.loop-high.moved) (SaysMoved p.mid) (SaysMoved past) limit hosts whole c.loop-high.high
    (range_with_len (c.loop-high.high + 1) (hosts - (c.loop-high.high + 1))) act c.in_err-more.field-0.0 (state c.loop-high.self) (state c.both_ways.new.self) (state c.both_ways.new.self) p
    (c.in_err-more.ensures.course limit hosts p.mid p.told))

pub loop-high-preserved : goal.loop-high-preserved
loop-high-preserved c = (
  c.in_ok-more.ensures.count ∙ c.loop-high.invariant.0,
  λ limit hosts past told.
      let act : ℕ → List Event → Course = λ high. both_ways limit (record { low = c.args.low; high = high }) in
      let whole = each (pairs_above c.args.low hosts) (both_ways limit) past in
      let below : c.loop-high.high < hosts = subst (λ n. c.loop-high.high < n) told.count_is c.loop-high-test.true in
      let p = subst (λ (l : List ℕ). Reaches (λ mid. SaysMoved past mid c.loop-high.moved) limit hosts whole l act (state c.loop-high.self)) (range_next c.loop-high.high hosts below)
      (c.loop-high.invariant.1 limit hosts past told) in
      reaches_more (λ mid. SaysMoved past mid c.loop-high.moved) (λ mid. SaysMoved past mid c.either-moved.result) limit hosts whole c.loop-high.high
      (range_with_len (c.loop-high.high + 1) (hosts - (c.loop-high.high + 1))) act (SaysMoved p.mid) c.in_ok-more.more
      (state c.loop-high.self) (state c.both_ways.new.self) p (c.in_ok-more.ensures.course limit hosts p.mid p.told)
      (λ later so. record {
        forward = omega (arith, p.right.forward, so.forward);
        says = c.either-moved.ensures ∙ moved_then (moved_in_all past) (moved_in_all p.mid) (moved_in_all later) c.loop-high.moved c.in_ok-more.more p.right.forward so.forward p.right.says so.says;
      }),
)

pub returns-clause-course : goal.returns-clause-course
returns-clause-course c = λ limit hosts past told.
    let act : ℕ → List Event → Course = λ high. both_ways limit (record { low = c.args.low; high = high }) in
    let whole = each (pairs_above c.args.low hosts) (both_ways limit) past in
    let done : hosts ≤ c.loop-high.high = (let more = c.loop-high-test.false in omega (arith, more, told.count_is)) in
    let p = subst (λ (l : List ℕ). Reaches (λ mid. SaysMoved past mid c.loop-high.moved) limit hosts whole l act (state c.loop-high.self)) (range_done c.loop-high.high hosts done)
    (c.loop-high.invariant.1 limit hosts past told) in
    reaches_right (λ mid. SaysMoved past mid c.loop-high.moved) (SaysMoved past) limit hosts whole act c.loop-high.moved (state c.loop-high.self) p p.right
