use Rattle.std.proofs.Common.{◌≡◌, ◌<◌, Ok, Err, refl, sym, ◌∙◌, ap, subst, add-one, arith}
use Rattle.std.specs.Prelude.{Result}
use Rattle.std.proofs.lemmas.Grind.{common_steps}
use Rattle.rds_model.specs.declared.entry.Entry.TheVariants.{Cancel}
use Rattle.rds_model.specs.declared.entry.Target.TheVariants.{All}
use Rattle.rds_text.specs.Ports.{below}
use Rattle.rds_history.specs.Courses.{Course, appends, each}
use Rattle.rds_history.specs.Journals.{peers}
use Rattle.rds_play_world.specs.declared.stop.Stop.{Stop}
use Rattle.rds_play_world.specs.Coming.{Comes}
use Rattle.rds_play_world.specs.Telling.{state}
use Rattle.rds_play_world.proofs.Closing.{at_each, comes_early, comes_more, each_peer}
use Rattle.rds_play_world.proofs.world.World.take_all_back.Goals as goal

pub loop-peer-init : goal.loop-peer-init
loop-peer-init c = record { count = refl; course = λ limit hosts past told. told }

pub loop-peer-preserved : goal.loop-peer-preserved
loop-peer-preserved c = record {
  count = c.in_ok-take_back_at.ensures.count ∙ c.loop-peer.invariant.count;
  course = λ limit hosts past told.
      subst (λ n. Comes {A = Unit {0}} limit hosts (each (below n) (at_each limit c.args.host c.args.slot) past) (Ok tt) (state c.take_back_at.new.self)) (sym (add-one c.loop-peer.peer))
      (comes_more limit hosts c.loop-peer.peer (at_each limit c.args.host c.args.slot) past (Ok tt) (state c.loop-peer.self) (state c.take_back_at.new.self)
      (c.loop-peer.invariant.course limit hosts past told)
      (λ later told_later. c.in_ok-take_back_at.ensures.course limit hosts later told_later));
}

pub returns-in_err-take_back_at-clause-course : goal.returns-in_err-take_back_at-clause-course
returns-in_err-take_back_at-clause-course c = λ limit hosts past told.
    let h = c.args.host in
    let slot = c.args.slot in
    let why = c.in_err-take_back_at.field-0.0 in
    let same : c.from_residual.result ≡ Err why = grind (arith, common_steps) in
    let within : c.loop-peer.peer < hosts = omega (arith, told.count_is, c.loop-peer-test.true) in
    subst (λ (r : Result (Unit {0}) Stop). Comes limit hosts (each (peers hosts h) (λ k. appends limit h k (Cancel slot All)) past) r (state c.take_back_at.new.self)) (sym same)
    (subst (λ (d : Course). Comes {A = Unit {0}} limit hosts d (Err why) (state c.take_back_at.new.self)) (sym (each_peer limit hosts h slot past))
    (comes_early limit hosts hosts c.loop-peer.peer (at_each limit h slot) past why (state c.take_back_at.new.self) within
    (comes_more limit hosts c.loop-peer.peer (at_each limit h slot) past (Err why) (state c.loop-peer.self) (state c.take_back_at.new.self)
    (c.loop-peer.invariant.course limit hosts past told)
    (λ later told_later. c.in_err-take_back_at.ensures.course limit hosts later told_later))))

pub returns-clause-course : goal.returns-clause-course
returns-clause-course c = λ limit hosts past told.
    let h = c.args.host in
    let slot = c.args.slot in
    let all : c.loop-peer.peer ≡ hosts = omega (arith, told.count_is, c.loop-peer-test.false, c.loop-peer.auto.peer-end) in
    subst (λ (d : Course). Comes {A = Unit {0}} limit hosts d (Ok tt) (state c.loop-peer.self))
    (ap (λ n. each (below n) (at_each limit h slot) past) all ∙ sym (each_peer limit hosts h slot past))
    (c.loop-peer.invariant.course limit hosts past told)
