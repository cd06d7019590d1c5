use Rattle.std.proofs.Common.{◌≡◌, ℕ, Option, List, ◌∷◌, ◌<◌, sym, ◌∙◌, ap, subst, arith, length}
use Rattle.std.specs.Prelude.{IsSome, codes}
use Rattle.std.specs.Option.{option_map_or}
use Rattle.std.proofs.lemmas.Grind.{common_steps}
use Rattle.rds_model.specs.Past.{open_stream}
use Rattle.rds_text.specs.Lines.{cut_line}
use Rattle.rds_text.specs.Refusals.{is_down, pair_refused_line}
use Rattle.rds_history.specs.Courses.{prints}
use Rattle.rds_history.specs.Events.{Event, Printed}
use Rattle.rds_history.specs.Journals.{in_flight, journal}
use Rattle.rds_history.specs.Open.{cut_both}
use Rattle.rds_play_world.specs.Coming.{Comes}
use Rattle.rds_play_world.specs.Happening.{shut_both}
use Rattle.rds_play_world.specs.Telling.{none_waits, state}
use Rattle.rds_play_world.proofs.Comings.{comes_then}
use Rattle.rds_play_world.proofs.OpeningBoth.{some_in}
use Rattle.rds_play_world.proofs.world.World.cut.Goals as goal

pub returns-clause-course : goal.returns-clause-course
returns-clause-course c = λ limit hosts past told.
    let h = c.args.host in
    let k = c.args.peer in
    let s = state c.args.self.now in
    let some : IsSome c.stream.result = grind (arith, common_steps) in
    let h_at : h < hosts = subst (λ n. h < n) told.count_is c.requires.host in
    let k_at : k < hosts = subst (λ n. k < n) told.count_is c.requires.peer in
    let same : c.stream.result ≡ open_stream (journal h k past) = c.stream.ensures ∙ ap open_stream (told.ends_are h k h_at k_at c.requires.apart).journal_is in
    let on : IsSome (open_stream (journal h k past)) = subst (λ (o : Option ℕ). IsSome o) same some in
    let n = some_in (open_stream (journal h k past)) on in
    let line = cut_line h k (length (in_flight h k past)) (length (in_flight k h past)) in
    subst (λ (o : Option ℕ). Comes {A = Unit {0}} limit hosts (option_map_or (λ stream. cut_both limit h k past) o (prints (pair_refused_line (codes "cut") h k is_down) past)) c.cut_both.result (state c.cut_both.new.self)) (sym n.1)
    (comes_then none_waits none_waits limit hosts (prints line past) (shut_both limit h k) c.in_ok-tell_loss.field-0 c.cut_both.result
    (state c.tell_loss.new.self) (state c.cut_both.new.self) (c.in_ok-tell_loss.ensures.course limit hosts past told)
    (λ later is told_later.
    let printed : later ≡ Printed line ∷ past = cc in
    c.cut_both.ensures.course limit hosts later told_later (subst (λ (p : List Event). IsSome (open_stream (journal h k p))) (sym printed) on)))
