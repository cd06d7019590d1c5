use Rattle.std.proofs.Common.{◌≡◌, ℕ, Global, String, List, ◌++◌, sym, ◌∙◌, ap, subst}
use Rattle.std.specs.Prelude.{string_bytes}
use Rattle.rds_text.specs.FinalState.{FinalHost}
use Rattle.rds_text.specs.Report.{report}
use Rattle.rds_text.specs.FinalViews.{AreFinalHosts, host_views}
use Rattle.rds_script.specs.Grammar.{meaning}
use Rattle.rds_history.specs.Events.{Event}
use Rattle.rds_history.specs.History.{course, final_hosts}
use Rattle.rds_history.specs.Transcript.{lines}
use Rattle.rds_play_world.specs.declared.world.World.{World}
use Rattle.rds_play_world.specs.Telling.{Tells, state}
use Rattle.rds_play.proofs.Followings.{made_of, follows_made}
use Rattle.rds_play.proofs.texting.text_of.Goals as goal

pub returns-clause-exact : goal.returns-clause-exact
returns-clause-exact c =
    let s = c.args.script.now in
    let m = made_of (λ (past : List Event) (world : World). Tells c.args.limit s.hosts past (state world)) (course (meaning s) c.args.limit) c.in_ok-world.world c.in_ok-world.ensures in
    let same : host_views c.deref.result.now ≡ host_views c.in_ok-ends.ends.items = ap host_views c.deref.ensures.value in
    let ends_are : host_views c.deref.result.now ≡ final_hosts s.hosts m.past = same ∙ c.in_ok-ends.ensures.ends c.args.limit s.hosts m.past m.right in
    follows_made (λ (past : List Event) (made : String Global). string_bytes made ≡ lines past ++ report (final_hosts s.hosts past)) (course (meaning s) c.args.limit)
    c.report.new.text m.past m.past_is
    (c.in_ok-report.ensures.exact (subst AreFinalHosts (sym same) (c.in_ok-ends.ensures.addressed c.args.limit s.hosts m.past m.right))
    ∙ ap (λ (l : List ℕ). l ++ report (host_views c.deref.result.now)) (c.in_ok-ends.ensures.text c.args.limit s.hosts m.past m.right)
    ∙ ap (λ (es : List FinalHost). lines m.past ++ report es) ends_are)
