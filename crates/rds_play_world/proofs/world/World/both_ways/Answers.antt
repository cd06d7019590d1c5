use Rattle.std.proofs.Common.{◌≡◌, ℕ, ◌-◌, Bool, None, Ok, Err, List, sym, ◌∙◌, subst, arith}
use Rattle.std.specs.Prelude.{Result, nat_lt, min}
use Rattle.std.proofs.lemmas.Grind.{common_steps}
use Rattle.rds_history.specs.Drain.{both_ways}
use Rattle.rds_history.specs.Events.{Event}
use Rattle.rds_history.specs.Journals.{moved_in_all}
use Rattle.rds_history.specs.Move.{move_up_to}
use Rattle.rds_play_world.specs.declared.stop.Stop.{Stop}
use Rattle.rds_play_world.specs.Coming.{ComesRight}
use Rattle.rds_play_world.specs.Draining.{SaysMoved}
use Rattle.rds_play_world.specs.Telling.{none_waits, state}
use Rattle.rds_play_world.proofs.Eaching.{moved_by, moved_then, right_map, right_same_stop, right_stopped, right_then}
use Rattle.rds_play_world.proofs.world.World.both_ways.Goals as goal

-- what an answer of a move says
abbrev Says : (past later : List Event) → ℕ → Type 0
Says past later n = n ≡ min 18446744073709551615 (moved_in_all later - moved_in_all past)

pub returns-in_err-forth-clause-course : goal.returns-in_err-forth-clause-course
returns-in_err-forth-clause-course c = λ limit hosts past told.
    let low = c.args.low in
    let high = c.args.high in
    let course = both_ways limit (record { low = low; high = high }) past in
    let same : c.from_residual.result ≡ Err c.in_err-forth.field-0.0 = grind (arith, common_steps) in
    subst (λ (r : Result Bool Stop). ComesRight (SaysMoved past) none_waits limit hosts course r (state c.move_up_to.new.self)) (sym same)
    (right_stopped (Says past) (SaysMoved past) limit hosts (move_up_to limit low high None past) (move_up_to limit high low None)
    c.in_err-forth.field-0.0 (state c.move_up_to.new.self) (state c.move_up_to.new.self) (c.in_err-forth.ensures.course limit hosts past told))

pub returns-in_err-back-clause-course : goal.returns-in_err-back-clause-course
returns-in_err-back-clause-course c = λ limit hosts past told.
    let low = c.args.low in
    let high = c.args.high in
    let course = both_ways limit (record { low = low; high = high }) past in
    let same : c.from_residual-in_err-back.result ≡ Err c.in_err-back.field-0.0 = grind (arith, common_steps) in
    subst (λ (r : Result Bool Stop). ComesRight (SaysMoved past) none_waits limit hosts course r (state c.move_up_to-2.new.self)) (sym same)
    (right_then (Says past) (SaysMoved past) limit hosts (move_up_to limit low high None past) (move_up_to limit high low None)
    c.in_ok-forth.forth (Err c.in_err-back.field-0.0) (state c.move_up_to.new.self) (state c.move_up_to-2.new.self) (c.in_ok-forth.ensures.course limit hosts past told)
    (λ mid mid_is told_mid says. right_same_stop (Says mid) (SaysMoved past) limit hosts (move_up_to limit high low None mid) c.in_err-back.field-0.0
    (state c.move_up_to-2.new.self) (state c.move_up_to-2.new.self) (c.in_err-back.ensures.course limit hosts mid told_mid)))

pub returns-clause-course : goal.returns-clause-course
returns-clause-course c = λ limit hosts past told.
    let low = c.args.low in
    let high = c.args.high in
    right_then (Says past) (SaysMoved past) limit hosts (move_up_to limit low high None past) (move_up_to limit high low None)
    c.in_ok-forth.forth (Ok c.either.result) (state c.move_up_to.new.self) (state c.move_up_to-2.new.self) (c.in_ok-forth.ensures.course limit hosts past told)
    (λ mid mid_is told_mid says. right_map (Says mid) (SaysMoved past) limit hosts (move_up_to limit high low None mid) c.in_ok-back.back c.either.result
    (state c.move_up_to-2.new.self) (c.in_ok-back.ensures.course limit hosts mid told_mid)
    (λ later later_is says_back.
    let on = c.moves_go_forward.ensures limit low high past mid mid_is in
    let back = c.moves_go_forward.ensures limit high low mid later later_is in
    record {
      forward = omega (arith, on, back);
      says = c.either.ensures ∙ moved_then (moved_in_all past) (moved_in_all mid) (moved_in_all later) (nat_lt 0 c.in_ok-forth.forth) (nat_lt 0 c.in_ok-back.back) on back
          (moved_by (moved_in_all past) (moved_in_all mid) c.in_ok-forth.forth on says) (moved_by (moved_in_all mid) (moved_in_all later) c.in_ok-back.back back says_back);
    }))
