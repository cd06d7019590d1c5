use Rattle.std.proofs.Common.{◌≡◌, ℕ, ◌<◌, Result, Ok, Err, List, [], length, sym, ap, subst, arith}
use Rattle.std.proofs.lemmas.Grind.{common_steps}
use Rattle.rds_history.specs.Courses.{Course, if_room}
use Rattle.rds_history.specs.Events.{Event}
use Rattle.rds_history.specs.Journals.{in_flight}
use Rattle.rds_history.specs.Move.{pull_if_idle}
use Rattle.rds_history.specs.PullAndRead.{pull}
use Rattle.rds_play_world.specs.declared.stop.Stop.{Stop}
use Rattle.rds_play_world.specs.Coming.{Comes}
use Rattle.rds_play_world.specs.Telling.{none_waits, state}
use Rattle.rds_play_world.proofs.Comings.{comes_made, comes_stopped, comes_then}
use Rattle.rds_play_world.proofs.Turns.{busy_stays, idle_pulls}
use Rattle.rds_play_world.proofs.Right.{no_bytes, none_bytes, room_same, some_bytes}
use Rattle.rds_play_world.proofs.world.World.pull_if_idle.Goals as goal

pub returns-then-not-is_empty-clause-course : goal.returns-then-not-is_empty-clause-course
returns-then-not-is_empty-clause-course c = λ limit hosts past told.
    let h = c.args.from in
    let k = c.args.to in
    let s = state c.args.self.now in
    let h_in : h < hosts = subst (λ n. h < n) told.count_is c.requires.from in
    let k_in : k < hosts = subst (λ n. k < n) told.count_is c.requires.to in
    let flies = ap (λ (l : List ℕ). length l) (told.ends_are h k h_in k_in c.requires.apart).flying_is in
    let seen = ap (λ (l : List ℕ). length l) c.in_flight.ensures in
    let some : 0 < length (in_flight h k past) = omega (arith, flies, seen, some_bytes c.in_flight.result.now c.is_empty.result c.is_empty.ensures c.if-not-is_empty.true) in
    subst (λ (course : Course). Comes {A = Unit {0}} limit hosts course (Ok (tt {0})) s) (busy_stays limit h k past some) told

pub returns-in_err-ready-clause-course : goal.returns-in_err-ready-clause-course
returns-in_err-ready-clause-course c = λ limit hosts past told.
    let h = c.args.from in
    let k = c.args.to in
    let s = state c.args.self.now in
    let h_in : h < hosts = subst (λ n. h < n) told.count_is c.requires.from in
    let k_in : k < hosts = subst (λ n. k < n) told.count_is c.requires.to in
    let flies = ap (λ (l : List ℕ). length l) (told.ends_are h k h_in k_in c.requires.apart).flying_is in
    let seen = ap (λ (l : List ℕ). length l) c.in_flight.ensures in
    let none : length (in_flight h k past) ≡ 0 = omega (arith, flies, seen, none_bytes c.in_flight.result.now c.is_empty.result c.is_empty.ensures c.if-not-is_empty.false) in
    let same : c.from_residual.result ≡ Err c.in_err-ready.field-0.0 = grind (arith, common_steps) in
    subst (λ (r : Result (Unit {0}) Stop). Comes limit hosts (pull_if_idle limit h k past) r (state c.ready.new.self)) (sym same)
    (subst (λ (course : Course). Comes {A = Unit {0}} limit hosts course (Err c.in_err-ready.field-0.0) (state c.ready.new.self)) (idle_pulls limit h k past (no_bytes (in_flight h k past) none))
    (comes_stopped (Unit {0}) (Unit {0}) none_waits none_waits limit hosts (if_room limit h k past) (λ before. Ok (pull h k before)) c.in_err-ready.field-0.0
    (state c.ready.new.self) (state c.ready.new.self) (c.in_err-ready.ensures.course none_waits limit hosts past told)))

pub returns-clause-course : goal.returns-clause-course
returns-clause-course c = λ limit hosts past told.
    let h = c.args.from in
    let k = c.args.to in
    let s = state c.args.self.now in
    let h_in : h < hosts = subst (λ n. h < n) told.count_is c.requires.from in
    let k_in : k < hosts = subst (λ n. k < n) told.count_is c.requires.to in
    let flies = ap (λ (l : List ℕ). length l) (told.ends_are h k h_in k_in c.requires.apart).flying_is in
    let seen = ap (λ (l : List ℕ). length l) c.in_flight.ensures in
    let none : length (in_flight h k past) ≡ 0 = omega (arith, flies, seen, none_bytes c.in_flight.result.now c.is_empty.result c.is_empty.ensures c.if-not-is_empty.false) in
    let idle : in_flight h k past ≡ [] = no_bytes (in_flight h k past) none in
    subst (λ (course : Course). Comes {A = Unit {0}} limit hosts course c.pull.result (state c.pull.new.self)) (idle_pulls limit h k past idle)
    (comes_then none_waits none_waits limit hosts (if_room limit h k past) (λ before. Ok (pull h k before)) c.in_ok-ready.field-0 c.pull.result
    (state c.ready.new.self) (state c.pull.new.self) (c.in_ok-ready.ensures.course none_waits limit hosts past told)
    (λ later is told_later. comes_made (Unit {0}) none_waits limit hosts (pull h k later) c.pull.result (state c.pull.new.self)
    (c.pull.ensures.told limit hosts later told_later (subst (λ (p : List Event). in_flight h k p ≡ []) (sym (room_same limit h k past later is)) idle)) c.pull.ensures.stop))
