use Rattle.std.proofs.Common.{Ok, ◌∙◌, ◌++◌, List, ap, option_copied}
use Rattle.rds_report.specs.Item.{Item}
use Rattle.rds_report.specs.Items.{past_in}
use Rattle.rds_report.proofs.Gathered.{none_lost}
use Rattle.rds_report.proofs.sent.add_sent.Goals as goal

pub returns-then-is_whole : goal.returns-then-is_whole
returns-then-is_whole c =
    let sent = c.in_ok-is_whole.ensures.whole (ap Ok c.if-is_whole.true) in
    sent.1
    ∙ ap (λ (l : List Item). c.args.items.now.items ++ l) (none_lost c.args.from c.args.to c.args.journal.now.past (past_in (option_copied c.args.back)) sent.0)
