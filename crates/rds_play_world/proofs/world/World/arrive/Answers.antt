use Rattle.std.proofs.Common.{◌≡◌, ℕ, ◌<◌, Result, Ok, Err, List, length, sym, ◌∙◌, ap, subst, arith}
use Rattle.std.proofs.lemmas.Grind.{common_steps}
use Rattle.rds_history.specs.Courses.{Course, if_room}
use Rattle.rds_history.specs.Journals.{in_flight}
use Rattle.rds_history.specs.Move.{arrive, move_piece, portion}
use Rattle.rds_play_world.specs.declared.stop.Stop.{Stop}
use Rattle.rds_play_world.specs.Coming.{ComesRight}
use Rattle.rds_play_world.specs.Telling.{none_waits, state}
use Rattle.rds_play_world.proofs.Turns.{arrived, none_arrives, portion_within, some_arrive}
use Rattle.rds_play_world.proofs.Right.{IsMore, right_lacking, right_stopped, right_then, some_flies}
use Rattle.rds_play_world.proofs.world.World.arrive.Goals as goal

pub returns-then-flight-eq0-clause-course : goal.returns-then-flight-eq0-clause-course
returns-then-flight-eq0-clause-course c = λ limit hosts past told.
    let h = c.args.from in
    let k = c.args.to in
    let s = state c.args.self.now in
    let h_in : h < hosts = subst (λ n. h < n) told.count_is c.requires.from in
    let k_in : k < hosts = subst (λ n. k < n) told.count_is c.requires.to in
    let flies = ap (λ (l : List ℕ). length l) (told.ends_are h k h_in k_in c.requires.apart).flying_is in
    let seen = ap (λ (l : List ℕ). length l) c.in_flight-flight.ensures in
    let none : length (in_flight h k past) ≡ 0 = omega (arith, flies, seen, c.if-flight-eq0.true) in
    subst (λ (course : Course). ComesRight (IsMore past) none_waits limit hosts course (Ok 0) s) (none_arrives limit h k c.args.left past none) (told, omega arith)

pub returns-in_err-ready-clause-course : goal.returns-in_err-ready-clause-course
returns-in_err-ready-clause-course c = λ limit hosts past told.
    let h = c.args.from in
    let k = c.args.to in
    let s = state c.args.self.now in
    let h_in : h < hosts = subst (λ n. h < n) told.count_is c.requires.from in
    let k_in : k < hosts = subst (λ n. k < n) told.count_is c.requires.to in
    let flies = ap (λ (l : List ℕ). length l) (told.ends_are h k h_in k_in c.requires.apart).flying_is in
    let seen = ap (λ (l : List ℕ). length l) c.in_flight-flight.ensures in
    let some : 0 < length (in_flight h k past) = some_flies (length (in_flight h k past)) (length c.in_flight-flight.result.now) (omega (arith, flies, seen)) c.if-flight-eq0.false in
    let same : c.from_residual.result ≡ Err c.in_err-ready.field-0.0 = grind (arith, common_steps) in
    let why = c.in_err-ready.field-0.0 in
    let t = state c.ready.new.self in
    subst (λ (r : Result ℕ Stop). ComesRight (IsMore past) none_waits limit hosts (arrive limit h k c.args.left past) r t) (sym same)
    (subst (λ (course : Course). ComesRight (IsMore past) none_waits limit hosts course (Err why) t) (some_arrive limit h k c.args.left past some)
    (right_stopped (Unit {0}) (IsMore past) none_waits none_waits limit hosts (if_room limit k h past)
    (λ before. Ok (move_piece h k (portion c.args.left (length (in_flight h k past))) before)) why t t (c.in_err-ready.ensures.course none_waits limit hosts past told)))

pub returns-in_err-move_piece-clause-course : goal.returns-in_err-move_piece-clause-course
returns-in_err-move_piece-clause-course c = λ limit hosts past told.
    let same : c.from_residual-in_err-move_piece.result ≡ Err c.in_err-move_piece.field-0.0 = grind (arith, common_steps) in
    let why = c.in_err-move_piece.field-0.0 in
    let t = state c.move_piece.new.self in
    subst (λ (r : Result ℕ Stop). ComesRight (IsMore past) none_waits limit hosts (arrive limit c.args.from c.args.to c.args.left past) r t) (sym same)
    (right_lacking (IsMore past) none_waits limit hosts (arrive limit c.args.from c.args.to c.args.left past) why t c.in_err-move_piece.ensures.stop)

pub returns-clause-course : goal.returns-clause-course
returns-clause-course c = λ limit hosts past told.
    let h = c.args.from in
    let k = c.args.to in
    let s = state c.args.self.now in
    let h_in : h < hosts = subst (λ n. h < n) told.count_is c.requires.from in
    let k_in : k < hosts = subst (λ n. k < n) told.count_is c.requires.to in
    let flies = ap (λ (l : List ℕ). length l) (told.ends_are h k h_in k_in c.requires.apart).flying_is in
    let seen = ap (λ (l : List ℕ). length l) c.in_flight-flight.ensures in
    let long : length (in_flight h k past) ≡ (length c.in_flight-flight.result.now) = omega (arith, flies, seen) in
    let some : 0 < length (in_flight h k past) = some_flies (length (in_flight h k past)) (length c.in_flight-flight.result.now) long c.if-flight-eq0.false in
    let t = state c.move_piece.new.self in
    let count = c.portion-count.result in
    let count_is : count ≡ portion c.args.left (length (in_flight h k past)) = c.portion-count.ensures ∙ ap (portion c.args.left) (sym long) in
    subst (λ (course : Course). ComesRight (IsMore past) none_waits limit hosts course (Ok count) t) (some_arrive limit h k c.args.left past some)
    (right_then (IsMore past) none_waits none_waits limit hosts (if_room limit k h past) (λ before. Ok (move_piece h k (portion c.args.left (length (in_flight h k past))) before))
    c.in_ok-ready.field-0 (Ok count) (state c.ready.new.self) t (c.in_ok-ready.ensures.course none_waits limit hosts past told)
    (λ later is told_later. arrived limit hosts h k count c.args.left past later t is count_is some (c.in_ok-move_piece.ensures.told limit hosts later told_later)))

pub returns-clause-within : goal.returns-clause-within
returns-clause-within c = λ n is. let w = portion_within c.args.left (length c.in_flight-flight.result.now) n is in omega (arith, w, c.portion-count.ensures)
