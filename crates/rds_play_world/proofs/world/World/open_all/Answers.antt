use Rattle.std.proofs.Common.{◌≡◌, ℕ, ◌+◌, ◌-◌, ◌<◌, Err, List, refl, sym, ◌∙◌, ap, subst, arith}
use Rattle.std.specs.Prelude.{Result}
use Rattle.std.specs.List.{range_with_len}
use Rattle.std.proofs.lemmas.Grind.{common_steps}
use Rattle.rds_history.specs.Courses.{Course, each}
use Rattle.rds_history.specs.Drain.{open_if_closed, pairs}
use Rattle.rds_history.specs.Events.{Event}
use Rattle.rds_play_world.specs.declared.stop.Stop.{Stop}
use Rattle.rds_play_world.specs.Coming.{Comes}
use Rattle.rds_play_world.specs.Draining.{pairs_above}
use Rattle.rds_play_world.specs.Telling.{state}
use Rattle.rds_play_world.proofs.Eaching.{Reaches, each_pair, range_next, reaches_next, reaches_stopped}
use Rattle.rds_play_world.proofs.world.World.open_all.Goals as goal

pub loop-low-init : goal.loop-low-init
loop-low-init c = (
  refl,
  λ limit hosts past told. let zero : hosts ≡ hosts - 0 = omega arith in record {
    mid = past;
    same = each_pair hosts (open_if_closed limit) past ∙ ap (λ n. each (range_with_len 0 n) (λ low. each (pairs_above low hosts) (open_if_closed limit)) past) zero;
    right = tt;
    told = told;
  },
)

pub loop-low-preserved : goal.loop-low-preserved
loop-low-preserved c = (
  c.in_ok-open_above.ensures.count ∙ c.loop-low.invariant.0,
  λ limit hosts past told.
      let act : ℕ → List Event → Course = λ low. each (pairs_above low hosts) (open_if_closed limit) in
      let whole = each (pairs hosts) (open_if_closed limit) past in
      let below : c.loop-low.low < hosts = subst (λ n. c.loop-low.low < n) told.count_is c.loop-low-test.true in
      let p = subst (λ (l : List ℕ). Reaches (λ _. Unit {0}) limit hosts whole l act (state c.loop-low.self)) (range_next c.loop-low.low hosts below)
      (c.loop-low.invariant.1 limit hosts past told) in
      reaches_next limit hosts whole c.loop-low.low (range_with_len (c.loop-low.low + 1) (hosts - (c.loop-low.low + 1))) act c.in_ok-open_above.field-0
      (state c.loop-low.self) (state c.open_above.new.self) p (c.in_ok-open_above.ensures.course limit hosts p.mid p.told),
)

pub returns-in_err-open_above-clause-course : goal.returns-in_err-open_above-clause-course
returns-in_err-open_above-clause-course c = λ limit hosts past told.
    let act : ℕ → List Event → Course = λ low. each (pairs_above low hosts) (open_if_closed limit) in
    let whole = each (pairs hosts) (open_if_closed limit) past in
    let below : c.loop-low.low < hosts = subst (λ n. c.loop-low.low < n) told.count_is c.loop-low-test.true in
    let p = subst (λ (l : List ℕ). Reaches (λ _. Unit {0}) limit hosts whole l act (state c.loop-low.self)) (range_next c.loop-low.low hosts below)
    (c.loop-low.invariant.1 limit hosts past told) in
    let same : c.from_residual.result ≡ Err c.in_err-open_above.field-0.0 = grind (arith, common_steps) in
    subst (λ (r : Result (Unit {0}) Stop). Comes limit hosts whole r (state c.open_above.new.self)) (sym same)
    (reaches_stopped (Unit {0}) (Unit {0}) (λ _. Unit {0}) limit hosts whole c.loop-low.low (range_with_len (c.loop-low.low + 1) (hosts - (c.loop-low.low + 1))) act
    c.in_err-open_above.field-0.0 (state c.loop-low.self) (state c.open_above.new.self) (state c.open_above.new.self) p
    (c.in_err-open_above.ensures.course limit hosts p.mid p.told))
