use Rattle.std.proofs.Common.{◌≡◌, ◌<◌, Ok, Err, List, sym, subst, arith}
use Rattle.std.specs.Prelude.{Result}
use Rattle.std.proofs.lemmas.Grind.{common_steps}
use Rattle.rds_model.specs.declared.entry.Entry.TheVariants.{Cancel}
use Rattle.rds_model.specs.declared.entry.Target.TheVariants.{All}
use Rattle.rds_history.specs.Cancel.{unbind}
use Rattle.rds_history.specs.Courses.{and_then, appends, each}
use Rattle.rds_history.specs.Events.{Event}
use Rattle.rds_history.specs.Journals.{peers}
use Rattle.rds_play_world.specs.declared.stop.Stop.{Stop}
use Rattle.rds_play_world.specs.Coming.{Comes}
use Rattle.rds_play_world.specs.Telling.{none_waits, state}
use Rattle.rds_play_world.proofs.Closing.{same_slots}
use Rattle.rds_play_world.proofs.Comings.{comes_made, comes_stopped, comes_then}
use Rattle.rds_play_world.proofs.world.World.close_slot.Goals as goal

pub returns-in_err-take_all_back-clause-course : goal.returns-in_err-take_all_back-clause-course
returns-in_err-take_all_back-clause-course c = λ limit hosts past told bound.
    let h = c.args.host in
    let slot = c.args.slot in
    let same : c.from_residual.result ≡ Err c.in_err-take_all_back.field-0.0 = grind (arith, common_steps) in
    subst (λ (r : Result (Unit {0}) Stop). Comes limit hosts (and_then (each (peers hosts h) (λ k. appends limit h k (Cancel slot All)) past) (λ later. Ok (unbind h c.args.port slot later))) r (state c.take_all_back.new.self)) (sym same)
    (comes_stopped (Unit {0}) (Unit {0}) none_waits none_waits limit hosts (each (peers hosts h) (λ k. appends limit h k (Cancel slot All)) past) (λ (later : List Event). Ok (unbind h c.args.port slot later))
    c.in_err-take_all_back.field-0.0 (state c.take_all_back.new.self) (state c.take_all_back.new.self) (c.in_err-take_all_back.ensures.course limit hosts past told))

pub returns-clause-course : goal.returns-clause-course
returns-clause-course c = λ limit hosts past told bound.
    let h = c.args.host in
    let slot = c.args.slot in
    comes_then none_waits none_waits limit hosts (each (peers hosts h) (λ k. appends limit h k (Cancel slot All)) past) (λ (later : List Event). Ok (unbind h c.args.port slot later))
    c.in_ok-take_all_back.field-0 c.free.result (state c.take_all_back.new.self) (state c.free.new.self) (c.in_ok-take_all_back.ensures.course limit hosts past told)
    (λ later is told_later. comes_made (Unit {0}) none_waits limit hosts (unbind h c.args.port slot later) c.free.result (state c.free.new.self)
    (c.free.ensures.told limit hosts later told_later (subst (λ n. slot < n) (sym (same_slots h limit h slot (peers hosts h) past later is)) bound)) c.free.ensures.stop)
