use Rattle.std.proofs.Common.{◌≡◌, ℕ, Ok, Err, List, sym, ◌∙◌, ap, subst, arith}
use Rattle.std.specs.Prelude.{Result}
use Rattle.std.proofs.lemmas.Grind.{common_steps}
use Rattle.rds_model.specs.Past.{open_stream}
use Rattle.rds_history.specs.Courses.{Course, and_then, if_room}
use Rattle.rds_history.specs.Events.{Event}
use Rattle.rds_history.specs.Journals.{journal}
use Rattle.rds_play_world.specs.declared.stop.Stop.{Stop}
use Rattle.rds_play_world.specs.Coming.{Comes}
use Rattle.rds_play_world.specs.Happening.{both_shut, shut_both}
use Rattle.rds_play_world.specs.Telling.{none_waits, state}
use Rattle.rds_play_world.proofs.BothReady.{room_same, shut_both_is}
use Rattle.rds_play_world.proofs.Comings.{comes_made, comes_stopped, comes_then}
use Rattle.rds_play_world.proofs.OpeningBoth.{same_stream, some_in}
use Rattle.rds_play_world.proofs.world.World.cut_both.Goals as goal

-- what is left to do where the first journal has room
abbrev next : (limit h k n : ℕ) → List Event → Course
next limit h k n before = and_then (if_room limit k h before) (λ last. Ok (both_shut h k n last))

pub returns-in_err-ready-clause-course : goal.returns-in_err-ready-clause-course
returns-in_err-ready-clause-course c = λ limit hosts past told on.
    let h = c.args.host in
    let k = c.args.peer in
    let n = some_in (open_stream (journal h k past)) on in
    let back = same_stream limit hosts h k n.0 past (state c.args.self.now) told c.requires.host c.requires.peer c.requires.apart n.1 c.known.ensures in
    let same : c.from_residual.result ≡ Err c.in_err-ready.field-0.0 = grind (arith, common_steps) in
    subst (λ (r : Result (Unit {0}) Stop). Comes limit hosts (shut_both limit h k past) r (state c.ready.new.self)) (sym same)
    (subst (λ (course : Course). Comes {A = Unit {0}} limit hosts course (Err c.in_err-ready.field-0.0) (state c.ready.new.self)) (sym (shut_both_is limit h k n.0 past c.requires.apart n.1 back))
    (comes_stopped (Unit {0}) (Unit {0}) none_waits none_waits limit hosts (if_room limit h k past) (next limit h k n.0) c.in_err-ready.field-0.0
    (state c.ready.new.self) (state c.ready.new.self) (c.in_err-ready.ensures.course none_waits limit hosts past told)))

pub returns-in_err-ready-2-clause-course : goal.returns-in_err-ready-2-clause-course
returns-in_err-ready-2-clause-course c = λ limit hosts past told on.
    let h = c.args.host in
    let k = c.args.peer in
    let n = some_in (open_stream (journal h k past)) on in
    let back = same_stream limit hosts h k n.0 past (state c.args.self.now) told c.requires.host c.requires.peer c.requires.apart n.1 c.known.ensures in
    let same : c.from_residual-in_err-ready-2.result ≡ Err c.in_err-ready-2.field-0.0 = grind (arith, common_steps) in
    subst (λ (r : Result (Unit {0}) Stop). Comes limit hosts (shut_both limit h k past) r (state c.ready-2.new.self)) (sym same)
    (subst (λ (course : Course). Comes {A = Unit {0}} limit hosts course (Err c.in_err-ready-2.field-0.0) (state c.ready-2.new.self)) (sym (shut_both_is limit h k n.0 past c.requires.apart n.1 back))
    (comes_then none_waits none_waits limit hosts (if_room limit h k past) (next limit h k n.0) c.in_ok-ready.field-0 (Err c.in_err-ready-2.field-0.0)
    (state c.ready.new.self) (state c.ready-2.new.self) (c.in_ok-ready.ensures.course none_waits limit hosts past told)
    (λ later is told_later. comes_stopped (Unit {0}) (Unit {0}) none_waits none_waits limit hosts (if_room limit k h later) (λ last. Ok (both_shut h k n.0 last))
    c.in_err-ready-2.field-0.0 (state c.ready-2.new.self) (state c.ready-2.new.self) (c.in_err-ready-2.ensures.course none_waits limit hosts later told_later))))

pub returns-clause-course : goal.returns-clause-course
returns-clause-course c = λ limit hosts past told on.
    let h = c.args.host in
    let k = c.args.peer in
    let n = some_in (open_stream (journal h k past)) on in
    let back = same_stream limit hosts h k n.0 past (state c.args.self.now) told c.requires.host c.requires.peer c.requires.apart n.1 c.known.ensures in
    subst (λ (course : Course). Comes {A = Unit {0}} limit hosts course c.shut_ends.result (state c.shut_ends.new.self)) (sym (shut_both_is limit h k n.0 past c.requires.apart n.1 back))
    (comes_then none_waits none_waits limit hosts (if_room limit h k past) (next limit h k n.0) c.in_ok-ready.field-0 c.shut_ends.result
    (state c.ready.new.self) (state c.shut_ends.new.self) (c.in_ok-ready.ensures.course none_waits limit hosts past told)
    (λ later is told_later. comes_then none_waits none_waits limit hosts (if_room limit k h later) (λ last. Ok (both_shut h k n.0 last)) c.in_ok-ready-2.field-0 c.shut_ends.result
    (state c.ready-2.new.self) (state c.shut_ends.new.self) (c.in_ok-ready-2.ensures.course none_waits limit hosts later told_later)
    (λ last last_is told_last.
    let same : last ≡ past = room_same limit k h later last last_is ∙ room_same limit h k past later is in
    comes_made (Unit {0}) none_waits limit hosts (both_shut h k n.0 last) c.shut_ends.result (state c.shut_ends.new.self)
    (c.shut_ends.ensures.told limit hosts last n.0 told_last (ap (λ (p : List Event). open_stream (journal h k p)) same ∙ n.1)) c.shut_ends.ensures.stop)))
