use Rattle.std.proofs.Common.{◌≡◌, ◌+◌, ◌∷◌, sym, ap, ◌∙◌, arith}
use Rattle.rds_run_rounds.specs.Causes.{refusals}
use Rattle.rds_run_rounds.proofs.Counted.{oldest, oldest_next, refusals_so_far, place_within, oldest_end}
use Rattle.rds_run_rounds.proofs.verdict.refusals_in.Goals as goal

pub refusals_after-count-requires : goal.refusals_after-count-requires
refusals_after-count-requires c =
    let so_far = refusals_so_far c.loop-entry.entry-index c.args.journal.now.past in
    let is = c.loop-entry.invariant in
    let below = place_within c.args.journal.now.past c.loop-entry.entry-index c.entries-entry-items.result.now c.entries-entry-items.ensures.list c.loop-entry-test.true in
    let most = c.entries-entry-items.ensures.most in
    omega (arith, so_far, is, below, most)

pub loop-entry-preserved : goal.loop-entry-preserved
loop-entry-preserved c =
    let all = c.args.journal.now.past in
    let past = oldest c.loop-entry.entry-index all in
    let more : oldest (c.loop-entry.entry-index + 1) all ≡ c.entry-item.result ∷ past = oldest_next all c.loop-entry.entry-index c.entry-item.result c.entries-entry-items.result.now c.entries-entry-items.ensures.list c.loop-entry-test.true c.entry-item.is in
    c.refusals_after-count.ensures past c.loop-entry.invariant ∙ sym (ap refusals more)

pub returns : goal.returns
returns c = c.loop-entry.invariant ∙ ap refusals (oldest_end c.args.journal.now.past c.loop-entry.entry-index c.entries-entry-items.result.now c.entries-entry-items.ensures.list (omega (arith, c.loop-entry-test.false)))
