use Rattle.std.proofs.Common.{◌≡◌, ℕ, ◌+◌, Result, Ok, Err, sym, ◌∙◌, ap, subst, arith}
use Rattle.std.proofs.lemmas.Grind.{common_steps}
use Rattle.rds_history.specs.Courses.{Course}
use Rattle.rds_history.specs.Move.{arrive, pull_if_idle, turn}
use Rattle.rds_play_world.specs.declared.stop.Stop.{Stop}
use Rattle.rds_play_world.specs.Coming.{ComesRight}
use Rattle.rds_play_world.specs.Telling.{none_waits, state}
use Rattle.rds_play_world.proofs.Turns.{pull_if_idle_moves_none, left_none, left_some, turn_goes, turn_stays}
use Rattle.rds_play_world.proofs.Right.{IsMore, right_stopped, right_then, right_weaker}
use Rattle.rds_play_world.proofs.world.World.turn.Goals as goal

pub returns-then-eq-clause-course : goal.returns-then-eq-clause-course
returns-then-eq-clause-course c = λ limit hosts past told.
    let s = state c.args.self.now in
    subst (λ (course : Course). ComesRight (IsMore past) none_waits limit hosts course (Ok 0) s) (turn_stays limit c.args.from c.args.to c.args.left past (left_none c.args.left c.eq.result c.eq.ensures c.if-eq.true)) (told, omega arith)

pub returns-in_err-pull_if_idle-clause-course : goal.returns-in_err-pull_if_idle-clause-course
returns-in_err-pull_if_idle-clause-course c = λ limit hosts past told.
    let h = c.args.from in
    let k = c.args.to in
    let same : c.from_residual.result ≡ Err c.in_err-pull_if_idle.field-0.0 = grind (arith, common_steps) in
    let why = c.in_err-pull_if_idle.field-0.0 in
    let t = state c.pull_if_idle.new.self in
    subst (λ (r : Result ℕ Stop). ComesRight (IsMore past) none_waits limit hosts (turn limit h k c.args.left past) r t) (sym same)
    (subst (λ (course : Course). ComesRight (IsMore past) none_waits limit hosts course (Err why) t) (turn_goes limit h k c.args.left past (left_some c.args.left c.eq.result c.eq.ensures c.if-eq.false))
    (right_stopped (Unit {0}) (IsMore past) none_waits none_waits limit hosts (pull_if_idle limit h k past) (arrive limit h k c.args.left) why t t
    (c.in_err-pull_if_idle.ensures.course limit hosts past told)))

pub returns-clause-course : goal.returns-clause-course
returns-clause-course c = λ limit hosts past told.
    let h = c.args.from in
    let k = c.args.to in
    let t = state c.arrive.new.self in
    subst (λ (course : Course). ComesRight (IsMore past) none_waits limit hosts course c.arrive.result t) (turn_goes limit h k c.args.left past (left_some c.args.left c.eq.result c.eq.ensures c.if-eq.false))
    (right_then (IsMore past) none_waits none_waits limit hosts (pull_if_idle limit h k past) (arrive limit h k c.args.left) c.in_ok-pull_if_idle.field-0 c.arrive.result
    (state c.pull_if_idle.new.self) t (c.in_ok-pull_if_idle.ensures.course limit hosts past told)
    (λ later is told_later. right_weaker (IsMore later) (IsMore past) none_waits limit hosts (arrive limit h k c.args.left later) c.arrive.result t
    (λ last x more. more ∙ ap (λ n. n + x) (pull_if_idle_moves_none limit h k past later is)) (c.arrive.ensures.course limit hosts later told_later)))
