use Rattle.std.proofs.Common.{◌≡◌, Ok, Err, List, ◌∷◌, sym, subst, arith}
use Rattle.std.specs.Prelude.{Result}
use Rattle.std.proofs.lemmas.Grind.{common_steps}
use Rattle.rds_model.specs.declared.entry.Entry.TheVariants.{Accept}
use Rattle.rds_history.specs.Courses.{appends, if_room}
use Rattle.rds_history.specs.Events.{Event, Appended}
use Rattle.rds_play_world.specs.declared.stop.Stop.{Stop}
use Rattle.rds_play_world.specs.Coming.{Comes}
use Rattle.rds_play_world.specs.Telling.{none_waits, state}
use Rattle.rds_play_world.proofs.Comings.{comes_stopped}
use Rattle.rds_play_world.proofs.Sending.{comes_appended}
use Rattle.rds_play_world.proofs.world.World.accept.Goals as goal

pub returns-in_err-ready-clause-course : goal.returns-in_err-ready-clause-course
returns-in_err-ready-clause-course c = λ limit hosts past slot sport dport payload told is allowed.
    let h = c.args.host in
    let k = c.args.to in
    let same : c.from_residual.result ≡ Err c.in_err-ready.field-0.0 = grind (arith, common_steps) in
    subst (λ (r : Result (Unit {0}) Stop). Comes limit hosts (appends limit h k (Accept slot sport dport payload) past) r (state c.ready.new.self)) (sym same)
    (comes_stopped (Unit {0}) (Unit {0}) none_waits none_waits limit hosts (if_room limit h k past) (λ (before : List Event). Ok (Appended h k (Accept slot sport dport payload) ∷ before))
    c.in_err-ready.field-0.0 (state c.ready.new.self) (state c.ready.new.self) (c.in_err-ready.ensures.course none_waits limit hosts past told))

pub returns-clause-course : goal.returns-clause-course
returns-clause-course c = λ limit hosts past slot sport dport payload told is allowed.
    let h = c.args.host in
    let k = c.args.to in
    comes_appended limit hosts h k (Accept slot sport dport payload) past c.in_ok-ready.field-0 c.take_on.result (state c.ready.new.self) (state c.take_on.new.self)
    (c.in_ok-ready.ensures.course none_waits limit hosts past told)
    (λ later told_later. c.take_on.ensures.told limit hosts later slot sport dport payload told_later is allowed) c.take_on.ensures.stop
