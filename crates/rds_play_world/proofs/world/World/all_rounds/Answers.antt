use Rattle.std.proofs.Common.{◌≡◌, suc, ◌+◌, ◌-◌, Bool, Ok, Err, sym, ◌∙◌, subst, arith}
use Rattle.std.specs.Prelude.{Result}
use Rattle.std.proofs.lemmas.Grind.{common_steps}
use Rattle.rds_history.specs.Courses.{again}
use Rattle.rds_history.specs.Drain.{round, rounds}
use Rattle.rds_play_world.specs.declared.stop.Stop.{Stop}
use Rattle.rds_play_world.specs.Coming.{Comes, ComesRight}
use Rattle.rds_play_world.specs.Draining.{SaysMoved}
use Rattle.rds_play_world.specs.Telling.{none_waits, state}
use Rattle.rds_play_world.proofs.Eaching.{RunsOn, runs_more, runs_out, runs_stopped}
use Rattle.rds_play_world.proofs.world.World.all_rounds.Goals as goal

pub returns-in_err-moved-clause-course : goal.returns-in_err-moved-clause-course
returns-in_err-moved-clause-course c = λ limit hosts past told.
    let whole = again (rounds limit) (round limit hosts) past in
    let left = c.rounds-end.result - (c.loop.counter + 1) in
    let more : c.rounds-end.result - c.loop.counter ≡ suc left = omega (arith, c.loop-test.true) in
    let p = subst (λ n. RunsOn limit hosts whole n (round limit hosts) (state c.loop.self)) more (c.loop.invariant.2 limit hosts past told) in
    let same : c.from_residual.result ≡ Err c.in_err-moved.field-0.0 = grind (arith, common_steps) in
    subst (λ (r : Result (Unit {0}) Stop). Comes limit hosts whole r (state c.round.new.self)) (sym same)
    (runs_stopped (Unit {0}) (SaysMoved p.mid) limit hosts whole left (round limit hosts) c.in_err-moved.field-0.0 (state c.loop.self) (state c.round.new.self) p
    (c.in_err-moved.ensures.course limit hosts p.mid p.told))

pub returns-then-not-moved-clause-course : goal.returns-then-not-moved-clause-course
returns-then-not-moved-clause-course c = λ limit hosts past told.
    let whole = again (rounds limit) (round limit hosts) past in
    let left = c.rounds-end.result - (c.loop.counter + 1) in
    let more : c.rounds-end.result - c.loop.counter ≡ suc left = omega (arith, c.loop-test.true) in
    let p = subst (λ n. RunsOn limit hosts whole n (round limit hosts) (state c.loop.self)) more (c.loop.invariant.2 limit hosts past told) in
    runs_out limit hosts whole left (round limit hosts) (tt {0}) (state c.loop.self) (state c.round.new.self) p
    (subst (λ (b : Bool). ComesRight (SaysMoved p.mid) none_waits limit hosts (round limit hosts p.mid) (Ok b) (state c.round.new.self)) c.if-not-moved.true
    (c.in_ok-moved.ensures.course limit hosts p.mid p.told))

pub loop-preserved : goal.loop-preserved
loop-preserved c = (
  c.in_ok-moved.ensures.count ∙ c.loop.invariant.0,
  c.loop.invariant.1,
  λ limit hosts past told.
      let whole = again (rounds limit) (round limit hosts) past in
      let left = c.rounds-end.result - (c.loop.counter + 1) in
      let more : c.rounds-end.result - c.loop.counter ≡ suc left = omega (arith, c.loop-test.true) in
      let p = subst (λ n. RunsOn limit hosts whole n (round limit hosts) (state c.loop.self)) more (c.loop.invariant.2 limit hosts past told) in
      runs_more limit hosts whole left (round limit hosts) (state c.loop.self) (state c.round.new.self) p
      (subst (λ (b : Bool). ComesRight (SaysMoved p.mid) none_waits limit hosts (round limit hosts p.mid) (Ok b) (state c.round.new.self)) c.if-not-moved.false
      (c.in_ok-moved.ensures.course limit hosts p.mid p.told)),
)
