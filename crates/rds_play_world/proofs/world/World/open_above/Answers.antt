use Rattle.std.proofs.Common.{◌≡◌, ℕ, ◌+◌, ◌-◌, ◌<◌, Err, List, refl, sym, ◌∙◌, subst, arith}
use Rattle.std.specs.Prelude.{Result}
use Rattle.std.specs.List.{range_with_len}
use Rattle.std.proofs.lemmas.Grind.{common_steps}
use Rattle.rds_history.specs.Courses.{Course, each}
use Rattle.rds_history.specs.Drain.{open_if_closed}
use Rattle.rds_history.specs.Events.{Event}
use Rattle.rds_play_world.specs.declared.stop.Stop.{Stop}
use Rattle.rds_play_world.specs.Coming.{Comes}
use Rattle.rds_play_world.specs.Draining.{pairs_above}
use Rattle.rds_play_world.specs.Telling.{state}
use Rattle.rds_play_world.proofs.Eaching.{Reaches, each_above, range_next, reaches_next, reaches_stopped}
use Rattle.rds_play_world.proofs.world.World.open_above.Goals as goal

pub loop-high-init : goal.loop-high-init
loop-high-init c = (
  refl,
  λ limit hosts past told. record {
    mid = past;
    same = each_above c.args.low hosts (open_if_closed limit) past;
    right = tt;
    told = told;
  },
)

pub loop-high-preserved : goal.loop-high-preserved
loop-high-preserved c = (
  c.in_ok-open_if_closed.ensures.count ∙ c.loop-high.invariant.0,
  λ limit hosts past told.
      let act : ℕ → List Event → Course = λ high. open_if_closed limit (record { low = c.args.low; high = high }) in
      let whole = each (pairs_above c.args.low hosts) (open_if_closed limit) past in
      let below : c.loop-high.high < hosts = subst (λ n. c.loop-high.high < n) told.count_is c.loop-high-test.true in
      let p = subst (λ (l : List ℕ). Reaches (λ _. Unit {0}) limit hosts whole l act (state c.loop-high.self)) (range_next c.loop-high.high hosts below)
      (c.loop-high.invariant.1 limit hosts past told) in
      reaches_next limit hosts whole c.loop-high.high (range_with_len (c.loop-high.high + 1) (hosts - (c.loop-high.high + 1))) act c.in_ok-open_if_closed.field-0
      (state c.loop-high.self) (state c.open_if_closed.new.self) p (c.in_ok-open_if_closed.ensures.course limit hosts p.mid p.told),
)

pub returns-in_err-open_if_closed-clause-course : goal.returns-in_err-open_if_closed-clause-course
returns-in_err-open_if_closed-clause-course c = λ limit hosts past told.
    let act : ℕ → List Event → Course = λ high. open_if_closed limit (record { low = c.args.low; high = high }) in
    let whole = each (pairs_above c.args.low hosts) (open_if_closed limit) past in
    let below : c.loop-high.high < hosts = subst (λ n. c.loop-high.high < n) told.count_is c.loop-high-test.true in
    let p = subst (λ (l : List ℕ). Reaches (λ _. Unit {0}) limit hosts whole l act (state c.loop-high.self)) (range_next c.loop-high.high hosts below)
    (c.loop-high.invariant.1 limit hosts past told) in
    let same : c.from_residual.result ≡ Err c.in_err-open_if_closed.field-0.0 = grind (arith, common_steps) in
    subst (λ (r : Result (Unit {0}) Stop). Comes limit hosts whole r (state c.open_if_closed.new.self)) (sym same)
    (reaches_stopped (Unit {0}) (Unit {0}) (λ _. Unit {0}) limit hosts whole c.loop-high.high (range_with_len (c.loop-high.high + 1) (hosts - (c.loop-high.high + 1))) act
    c.in_err-open_if_closed.field-0.0 (state c.loop-high.self) (state c.open_if_closed.new.self) (state c.open_if_closed.new.self) p
    (c.in_err-open_if_closed.ensures.course limit hosts p.mid p.told))
