use Rattle.std.proofs.Common.{◌≡◌, ◌+◌, ◌∷◌, sym, ap, ◌∙◌, arith}
use Rattle.rds_model.specs.Past.{newest_stream}
use Rattle.rds_run_rounds.proofs.Counted.{oldest, oldest_next, oldest_end}
use Rattle.rds_run_rounds.proofs.verdict.last_stream.Goals as goal

pub loop-entry-preserved : goal.loop-entry-preserved
loop-entry-preserved c =
    let all = c.args.journal.now.past in
    let past = oldest c.loop-entry.entry-index all in
    let more : oldest (c.loop-entry.entry-index + 1) all ≡ c.entry-item.result ∷ past = oldest_next all c.loop-entry.entry-index c.entry-item.result c.entries-entry-items.result.now c.entries-entry-items.ensures.list c.loop-entry-test.true c.entry-item.is in
    c.opened_last-last.ensures past c.loop-entry.invariant ∙ sym (ap newest_stream more)

pub returns : goal.returns
returns c = c.loop-entry.invariant ∙ ap newest_stream (oldest_end c.args.journal.now.past c.loop-entry.entry-index c.entries-entry-items.result.now c.entries-entry-items.ensures.list (omega (arith, c.loop-entry-test.false)))
