use Rattle.std.proofs.Common.{◌≡◌, ℕ, Ok, Err, List, sym, ◌∙◌, ap, subst, arith}
use Rattle.std.specs.Prelude.{Result}
use Rattle.std.proofs.lemmas.Grind.{common_steps}
use Rattle.rds_model.specs.Past.{open_stream}
use Rattle.rds_history.specs.Courses.{Course, and_then, if_room}
use Rattle.rds_history.specs.Events.{Event}
use Rattle.rds_history.specs.Journals.{journal}
use Rattle.rds_history.specs.Open.{open_both}
use Rattle.rds_play_world.specs.declared.stop.Stop.{Stop}
use Rattle.rds_play_world.specs.Coming.{Comes}
use Rattle.rds_play_world.specs.Happening.{both_opened}
use Rattle.rds_play_world.specs.Telling.{none_waits, state}
use Rattle.rds_play_world.proofs.BothReady.{open_both_is, room_same}
use Rattle.rds_play_world.proofs.Comings.{comes_made, comes_stopped, comes_then}
use Rattle.rds_play_world.proofs.world.World.open_both.Goals as goal

-- what is left to do where the first journal has room
abbrev next : (limit h k : ℕ) → List Event → Course
next limit h k before = and_then (if_room limit k h before) (λ last. Ok (both_opened h k last))

pub returns-in_err-ready-clause-course : goal.returns-in_err-ready-clause-course
returns-in_err-ready-clause-course c = λ limit hosts past told closed.
    let h = c.args.host in
    let k = c.args.peer in
    let same : c.from_residual.result ≡ Err c.in_err-ready.field-0.0 = grind (arith, common_steps) in
    subst (λ (r : Result (Unit {0}) Stop). Comes limit hosts (open_both limit h k past) r (state c.ready.new.self)) (sym same)
    (subst (λ (course : Course). Comes {A = Unit {0}} limit hosts course (Err c.in_err-ready.field-0.0) (state c.ready.new.self)) (sym (open_both_is limit h k past c.requires.apart))
    (comes_stopped (Unit {0}) (Unit {0}) none_waits none_waits limit hosts (if_room limit h k past) (next limit h k) c.in_err-ready.field-0.0
    (state c.ready.new.self) (state c.ready.new.self) (c.in_err-ready.ensures.course none_waits limit hosts past told)))

pub returns-in_err-ready-2-clause-course : goal.returns-in_err-ready-2-clause-course
returns-in_err-ready-2-clause-course c = λ limit hosts past told closed.
    let h = c.args.host in
    let k = c.args.peer in
    let same : c.from_residual-in_err-ready-2.result ≡ Err c.in_err-ready-2.field-0.0 = grind (arith, common_steps) in
    subst (λ (r : Result (Unit {0}) Stop). Comes limit hosts (open_both limit h k past) r (state c.ready-2.new.self)) (sym same)
    (subst (λ (course : Course). Comes {A = Unit {0}} limit hosts course (Err c.in_err-ready-2.field-0.0) (state c.ready-2.new.self)) (sym (open_both_is limit h k past c.requires.apart))
    (comes_then none_waits none_waits limit hosts (if_room limit h k past) (next limit h k) c.in_ok-ready.field-0 (Err c.in_err-ready-2.field-0.0)
    (state c.ready.new.self) (state c.ready-2.new.self) (c.in_ok-ready.ensures.course none_waits limit hosts past told)
    (λ later is told_later. comes_stopped (Unit {0}) (Unit {0}) none_waits none_waits limit hosts (if_room limit k h later) (λ last. Ok (both_opened h k last))
    c.in_err-ready-2.field-0.0 (state c.ready-2.new.self) (state c.ready-2.new.self) (c.in_err-ready-2.ensures.course none_waits limit hosts later told_later))))

pub returns-clause-course : goal.returns-clause-course
returns-clause-course c = λ limit hosts past told closed.
    let h = c.args.host in
    let k = c.args.peer in
    subst (λ (course : Course). Comes {A = Unit {0}} limit hosts course c.open_ends.result (state c.open_ends.new.self)) (sym (open_both_is limit h k past c.requires.apart))
    (comes_then none_waits none_waits limit hosts (if_room limit h k past) (next limit h k) c.in_ok-ready.field-0 c.open_ends.result
    (state c.ready.new.self) (state c.open_ends.new.self) (c.in_ok-ready.ensures.course none_waits limit hosts past told)
    (λ later is told_later. comes_then none_waits none_waits limit hosts (if_room limit k h later) (λ last. Ok (both_opened h k last)) c.in_ok-ready-2.field-0 c.open_ends.result
    (state c.ready-2.new.self) (state c.open_ends.new.self) (c.in_ok-ready-2.ensures.course none_waits limit hosts later told_later)
    (λ last last_is told_last.
    let same : last ≡ past = room_same limit k h later last last_is ∙ room_same limit h k past later is in
    comes_made (Unit {0}) none_waits limit hosts (both_opened h k last) c.open_ends.result (state c.open_ends.new.self)
    (c.open_ends.ensures.told limit hosts last told_last (ap (λ (p : List Event). open_stream (journal h k p)) same ∙ closed)) c.open_ends.ensures.stop)))
