use Rattle.std.proofs.Common.{◌≡◌, Err, sym, subst, arith}
use Rattle.std.specs.Prelude.{Result}
use Rattle.std.proofs.lemmas.Grind.{common_steps}
use Rattle.rds_model.specs.declared.entry.Entry.TheVariants.{Accept}
use Rattle.rds_history.specs.Courses.{appends}
use Rattle.rds_play_world.specs.declared.stop.Stop.{Stop}
use Rattle.rds_play_world.specs.declared.stop.Stop.TheVariants as stop
use Rattle.rds_play_world.specs.Coming.{Comes}
use Rattle.rds_play_world.specs.Telling.{none_waits, state}
use Rattle.rds_play_world.proofs.Comings.{comes_memory}
use Rattle.rds_play_world.proofs.Sending.{send_allowed}
use Rattle.rds_play_world.proofs.world.World.accept_from.Goals as goal

pub returns-in_err-order-clause-course : goal.returns-in_err-order-clause-course
returns-in_err-order-clause-course c = λ limit hosts past told.
    let same : c.from_residual.result ≡ Err stop.Memory = grind (arith, common_steps) in
    subst (λ (r : Result (Unit {0}) Stop). Comes limit hosts (appends limit c.args.host c.args.to (Accept c.args.slot c.args.port c.args.dport c.args.payload.now) past) r (state c.args.self.now)) (sym same)
    (comes_memory (Unit {0}) none_waits limit hosts (appends limit c.args.host c.args.to (Accept c.args.slot c.args.port c.args.dport c.args.payload.now) past) (state c.args.self.now))

pub returns-clause-course : goal.returns-clause-course
returns-clause-course c = λ limit hosts past told.
    c.accept.ensures.course limit hosts past c.args.slot c.args.port c.args.dport c.args.payload.now told c.in_ok-order.ensures
    (send_allowed c.args.slot c.args.port c.args.dport c.args.payload.now c.in_ok-order.order c.in_ok-order.ensures c.requires.slot c.requires.short)
