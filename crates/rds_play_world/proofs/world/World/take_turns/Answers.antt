use Rattle.std.proofs.Common.{◌≡◌, ◌+◌, ◌-◌, ℕ, suc, Option, Result, Ok, Err, refl, sym, ◌∙◌, ap, subst, arith}
use Rattle.std.specs.Prelude.{min}
use Rattle.std.specs.Option.{option_map}
use Rattle.std.proofs.lemmas.Grind.{common_steps}
use Rattle.rds_history.specs.Move.{move_up_to, turn}
use Rattle.rds_play_world.specs.declared.stop.Stop.{Stop}
use Rattle.rds_play_world.specs.Coming.{ComesRight}
use Rattle.rds_play_world.specs.Telling.{none_waits, state}
use Rattle.rds_play_world.proofs.Turns.{IsMoving, moving_begins, moving_ends, moving_more, moving_over, moving_stopped, top_of}
use Rattle.rds_play_world.proofs.Right.{IsCount, IsMore, some_flies}
use Rattle.rds_play_world.proofs.world.World.take_turns.Goals as goal

pub loop-turn-init : goal.loop-turn-init
loop-turn-init c = (
  refl,
  λ n is. omega arith,
  λ limit hosts past told turns.
      let all : limit + 1 ≡ c.args.turns - 0 = omega (arith, turns) in
      subst (λ (n : ℕ). IsMoving limit hosts c.args.from c.args.to c.args.most past n 0 (state c.args.self.now)) all
      (moving_begins limit hosts c.args.from c.args.to c.args.most past (state c.args.self.now) told),
)

pub turn-requires-clause-from : goal.turn-requires-clause-from
turn-requires-clause-from c = omega (arith, c.requires.from, c.loop-turn.invariant.0)

pub turn-requires-clause-to : goal.turn-requires-clause-to
turn-requires-clause-to c = omega (arith, c.requires.to, c.loop-turn.invariant.0)

pub returns-in_err-more-clause-count : goal.returns-in_err-more-clause-count
returns-in_err-more-clause-count c = c.turn.ensures.count ∙ c.loop-turn.invariant.0

pub returns-in_err-more-clause-course : goal.returns-in_err-more-clause-course
returns-in_err-more-clause-course c = λ limit hosts past told turns.
    let h = c.args.from in
    let k = c.args.to in
    let most = c.args.most in
    let times = c.args.turns - (c.loop-turn._turn + 1) in
    let moved = c.loop-turn.moved in
    let s = state c.loop-turn.self in
    let t = state c.turn.new.self in
    let next : c.args.turns - c.loop-turn._turn ≡ suc times = omega (arith, c.loop-turn-test.true) in
    let m : IsMoving limit hosts h k most past (suc times) moved s = subst (λ (n : ℕ). IsMoving limit hosts h k most past n moved s) next (c.loop-turn.invariant.2 limit hosts past told turns) in
    let why = c.in_err-more.field-0.0 in
    let same : c.from_residual.result ≡ Err why = grind (arith, common_steps) in
    subst (λ (r : Result ℕ Stop). ComesRight (IsCount past) none_waits limit hosts (move_up_to limit h k (top_of most past) past) r t) (sym same)
    (moving_stopped limit hosts h k most past times moved s t c.left_of.result why m c.left_of.ensures.left c.left_of.ensures.fits
    (c.in_err-more.ensures.course limit hosts m.mid m.tells))

pub returns-then-more-eq0-clause-count : goal.returns-then-more-eq0-clause-count
returns-then-more-eq0-clause-count c = c.turn.ensures.count ∙ c.loop-turn.invariant.0

pub returns-then-more-eq0-clause-course : goal.returns-then-more-eq0-clause-course
returns-then-more-eq0-clause-course c = λ limit hosts past told turns.
    let h = c.args.from in
    let k = c.args.to in
    let most = c.args.most in
    let times = c.args.turns - (c.loop-turn._turn + 1) in
    let moved = c.loop-turn.moved in
    let s = state c.loop-turn.self in
    let t = state c.turn.new.self in
    let next : c.args.turns - c.loop-turn._turn ≡ suc times = omega (arith, c.loop-turn-test.true) in
    let m : IsMoving limit hosts h k most past (suc times) moved s = subst (λ (n : ℕ). IsMoving limit hosts h k most past n moved s) next (c.loop-turn.invariant.2 limit hosts past told turns) in
    moving_ends limit hosts h k most past times moved s t c.left_of.result m c.left_of.ensures.left c.left_of.ensures.fits
    (subst (λ (n : ℕ). ComesRight (IsMore m.mid) none_waits limit hosts (turn limit h k c.left_of.result m.mid) (Ok n) t) c.if-more-eq0.true
    (c.in_ok-more.ensures.course limit hosts m.mid m.tells))

pub returns-then-more-eq0-clause-within : goal.returns-then-more-eq0-clause-within
returns-then-more-eq0-clause-within c = c.loop-turn.invariant.1

pub loop-turn-preserved : goal.loop-turn-preserved
loop-turn-preserved c =
    let h = c.args.from in
    let k = c.args.to in
    let most = c.args.most in
    let times = c.args.turns - (c.loop-turn._turn + 1) in
    let moved = c.loop-turn.moved in
    let more = c.in_ok-more.more in
    let total = c.saturating_add-moved.result in
    let s = state c.loop-turn.self in
    let t = state c.turn.new.self in
    let adds : total ≡ min 18446744073709551615 (moved + more) = omega (arith, c.saturating_add-moved.ensures) in
    let next : c.args.turns - c.loop-turn._turn ≡ suc times = omega (arith, c.loop-turn-test.true) in (
      c.turn.ensures.count ∙ c.loop-turn.invariant.0,
      λ n is.
          let few = c.in_ok-more.ensures.within (n - moved) (c.left_of.ensures.left ∙ ap (λ (o : Option ℕ). option_map (λ x. x - moved) o) is) in
          let so_far = c.loop-turn.invariant.1 n is in
          omega (arith, few, so_far, adds),
      λ limit hosts past told turns.
          let m : IsMoving limit hosts h k most past (suc times) moved s = subst (λ (n : ℕ). IsMoving limit hosts h k most past n moved s) next (c.loop-turn.invariant.2 limit hosts past told turns) in
          moving_more limit hosts h k most past times moved more total s t c.left_of.result m c.left_of.ensures.left c.left_of.ensures.fits
          (some_flies more more refl c.if-more-eq0.false) adds (c.in_ok-more.ensures.course limit hosts m.mid m.tells),
    )

pub returns-clause-count : goal.returns-clause-count
returns-clause-count c = c.loop-turn.invariant.0

pub returns-clause-course : goal.returns-clause-course
returns-clause-course c = λ limit hosts past told turns.
    let h = c.args.from in
    let k = c.args.to in
    let most = c.args.most in
    let moved = c.loop-turn.moved in
    let s = state c.loop-turn.self in
    let none : c.args.turns - c.loop-turn._turn ≡ 0 = omega (arith, c.loop-turn-test.false) in
    moving_over limit hosts h k most past moved s
    (subst (λ (n : ℕ). IsMoving limit hosts h k most past n moved s) none (c.loop-turn.invariant.2 limit hosts past told turns))

pub returns-clause-within : goal.returns-clause-within
returns-clause-within c = c.loop-turn.invariant.1
