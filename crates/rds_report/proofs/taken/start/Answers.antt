use Rattle.std.proofs.Common.{◌≡◌, ◌∙◌, false, length, arith, ap}
use Rattle.rds_model.specs.Past.{accepted}
use Rattle.rds_report.proofs.FlagLemmas.{length-flags}
use Rattle.rds_report.proofs.Walked.{walk_start}
use Rattle.rds_report.proofs.taken.start.Goals as goal

pub returns : goal.returns
returns c =
    let past = c.args.journal.now.past in
    let taken = c.in_ok-taken.taken in
    let long : length taken.items ≡ accepted past = ap length c.in_ok-taken.ensures ∙ length-flags (λ n. false) (accepted past) in
    walk_start past _ c.in_ok-taken.ensures (omega (arith, c.len.ensures, taken.ok, long)) c.new.ensures
