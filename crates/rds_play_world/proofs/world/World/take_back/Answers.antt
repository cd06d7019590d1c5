use Rattle.std.proofs.Common.{◌≡◌, Ok, Err, List, ◌∷◌, sym, subst, arith}
use Rattle.std.specs.Prelude.{Result}
use Rattle.std.proofs.lemmas.Grind.{common_steps}
use Rattle.rds_model.specs.declared.entry.Entry.TheVariants.{Cancel}
use Rattle.rds_history.specs.Courses.{appends, if_room}
use Rattle.rds_history.specs.Events.{Event, Appended}
use Rattle.rds_play_world.specs.declared.stop.Stop.{Stop}
use Rattle.rds_play_world.specs.Coming.{Comes}
use Rattle.rds_play_world.specs.Telling.{none_waits, state}
use Rattle.rds_play_world.proofs.Comings.{comes_stopped}
use Rattle.rds_play_world.proofs.Sending.{comes_appended}
use Rattle.rds_play_world.proofs.world.World.take_back.Goals as goal

pub returns-in_err-ready-clause-course : goal.returns-in_err-ready-clause-course
returns-in_err-ready-clause-course c = λ limit hosts past told.
    let h = c.args.host in
    let k = c.args.peer in
    let same : c.from_residual.result ≡ Err c.in_err-ready.field-0.0 = grind (arith, common_steps) in
    subst (λ (r : Result (Unit {0}) Stop). Comes limit hosts (appends limit h k (Cancel c.args.slot c.args.target) past) r (state c.ready.new.self)) (sym same)
    (comes_stopped (Unit {0}) (Unit {0}) none_waits none_waits limit hosts (if_room limit h k past) (λ (before : List Event). Ok (Appended h k (Cancel c.args.slot c.args.target) ∷ before))
    c.in_err-ready.field-0.0 (state c.ready.new.self) (state c.ready.new.self) (c.in_err-ready.ensures.course none_waits limit hosts past told))

pub returns-clause-course : goal.returns-clause-course
returns-clause-course c = λ limit hosts past told.
    let h = c.args.host in
    let k = c.args.peer in
    comes_appended limit hosts h k (Cancel c.args.slot c.args.target) past c.in_ok-ready.field-0 c.take_out.result (state c.ready.new.self) (state c.take_out.new.self)
    (c.in_ok-ready.ensures.course none_waits limit hosts past told)
    (λ later told_later. c.take_out.ensures.told limit hosts later told_later) c.take_out.ensures.stop
