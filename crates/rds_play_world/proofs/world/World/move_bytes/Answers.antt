use Rattle.std.proofs.Common.{◌≡◌, ℕ, ◌+◌, ◌-◌, ◌<◌, Some, Result, Ok, Err, List, refl, sym, ◌∙◌, ap, subst, arith}
use Rattle.std.specs.Prelude.{codes, string_bytes}
use Rattle.std.proofs.lemmas.Grind.{common_steps}
use Rattle.rds_model.specs.Past.{open_stream}
use Rattle.rds_text.specs.Lines.{move_line}
use Rattle.rds_text.specs.Refusals.{is_down, pair_refused_line}
use Rattle.rds_history.specs.Courses.{Course, prints}
use Rattle.rds_history.specs.Journals.{journal, moved_in_all}
use Rattle.rds_history.specs.Move.{move, move_up_to}
use Rattle.rds_play_world.specs.declared.stop.Stop.{Stop}
use Rattle.rds_play_world.specs.Coming.{Comes}
use Rattle.rds_play_world.specs.Telling.{state}
use Rattle.rds_play_world.proofs.Turns.{moved_and_told, open_moves, some_stream, told_stopped}
use Rattle.rds_play_world.proofs.Right.{IsCount}
use Rattle.rds_play_world.proofs.world.World.move_bytes.Goals as goal

pub returns-in_err-moved-clause-course : goal.returns-in_err-moved-clause-course
returns-in_err-moved-clause-course c = λ limit hosts past told.
    let h = c.args.host in
    let k = c.args.peer in
    let bytes = c.from.result in
    let wide : bytes ≡ c.args.bytes = cc in
    let s = state c.args.self.now in
    let t = state c.move_up_to.new.self in
    let h_in : h < hosts = subst (λ n. h < n) told.count_is c.requires.host in
    let k_in : k < hosts = subst (λ n. k < n) told.count_is c.requires.peer in
    let e = told.ends_are h k h_in k_in c.requires.apart in
    let on : open_stream (journal h k past) ≡ c.stream.result = sym (c.stream.ensures ∙ ap open_stream e.journal_is) in
    let why = c.in_err-moved.field-0.0 in
    let same : c.from_residual.result ≡ Err why = grind (arith, common_steps) in
    subst (λ (n : ℕ). Comes limit hosts (move limit h k n past) c.from_residual.result t) wide
    (subst (λ (r : Result (Unit {0}) Stop). Comes limit hosts (move limit h k bytes past) r t) (sym same)
    (subst (λ (course : Course). Comes {A = Unit {0}} limit hosts course (Err why) t)
    (open_moves limit h k bytes past c.stream.result (prints (pair_refused_line (codes "move") h k is_down) past) on (some_stream c.stream.result c.is_none.result c.is_none.ensures c.if-is_none.false))
    (told_stopped (Unit {0}) (IsCount past) limit hosts (move_up_to limit h k (Some (moved_in_all past + bytes)) past)
    (λ later. prints (move_line h k (moved_in_all later - moved_in_all past)) later) why t t (c.in_err-moved.ensures.course limit hosts past told))))

pub returns-clause-course : goal.returns-clause-course
returns-clause-course c = λ limit hosts past told.
    let h = c.args.host in
    let k = c.args.peer in
    let bytes = c.from.result in
    let wide : bytes ≡ c.args.bytes = cc in
    let s = state c.move_up_to.new.self in
    let h_in : h < hosts = subst (λ n. h < n) told.count_is c.requires.host in
    let k_in : k < hosts = subst (λ n. k < n) told.count_is c.requires.peer in
    let e = told.ends_are h k h_in k_in c.requires.apart in
    let on : open_stream (journal h k past) ≡ c.stream.result = sym (c.stream.ensures ∙ ap open_stream e.journal_is) in
    let moved = c.in_ok-moved.moved in
    let text = string_bytes c.move_line.new.text in
    subst (λ (n : ℕ). Comes {A = Unit {0}} limit hosts (move limit h k n past) (Ok (tt {0})) (record s { text = text })) wide
    (subst (λ (course : Course). Comes {A = Unit {0}} limit hosts course (Ok (tt {0})) (record s { text = text }))
    (open_moves limit h k bytes past c.stream.result (prints (pair_refused_line (codes "move") h k is_down) past) on (some_stream c.stream.result c.is_none.result c.is_none.ensures c.if-is_none.false))
    (moved_and_told limit hosts h k bytes moved past s (record s { text = text }) (omega (arith, c.ranges.bytes.fits, wide)) (c.in_ok-moved.ensures.within bytes refl)
    (c.in_ok-moved.ensures.course limit hosts past told) (ap (λ (l : List ℕ). record s { text = l }) c.in_ok-move_line.ensures)))
