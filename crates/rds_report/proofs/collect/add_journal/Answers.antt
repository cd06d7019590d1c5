use Rattle.std.proofs.Common.{◌≡◌, ◌∙◌, ◌++◌, List, [], filter, ap, sym}
use Rattle.std.proofs.lemmas.List.{append-nil}
use Rattle.rds_model.specs.declared.entry.Entry.{Entry}
use Rattle.rds_report.specs.Item.{Item}
use Rattle.rds_text.specs.FinalState.{FinalJournal}
use Rattle.rds_text.specs.FinalViews.{host_views}
use Rattle.rds_report.specs.Items.{is_lost, is_to, came_items, sent_items}
use Rattle.rds_report.proofs.Parted.{came_gone, came_kept, journal_kept, sent, sent_gone, sent_kept}
use Rattle.rds_report.proofs.collect.add_journal.Goals as goal
use Rattle.rds_report.proofs.collect.add_journal.Goals.{then-peer-to+in_ok-add_sent, else-peer-to}

pub returns-in_ok-add_came : goal.returns-in_ok-add_came
returns-in_ok-add_came c =
    let ends = host_views c.args.hosts.now in
    let s : FinalJournal = record { peer = c.args.peer; past = c.args.journal.now.past } in
    let first : (a : List Item) × ((c.if-peer-to.items.items ≡ c.args.items.now.items ++ a) × (filter (is_to c.args.to) (sent ends c.args.host c.args.to s) ≡ a)) =
    elim c.if-peer-to.branch [
      | then-peer-to+in_ok-add_sent w ↦ (
        sent ends c.args.host c.args.to s,
        (
          ap (λ v. v.items) w.items-is ∙ w.in_ok-add_sent.ensures
              ∙ ap (λ (back : List Entry). c.args.items.now.items ++ sent_items c.args.host c.args.peer (is_lost s.past back) s.past) w.journal_of-back.ensures,
          sent_kept ends c.args.host c.args.to s w.if-peer-to.true,
        ),
      )
      | else-peer-to w ↦ ([], (ap (λ v. v.items) w.items-is ∙ sym (append-nil c.args.items.now.items), sent_gone ends c.args.host c.args.to s w.if-peer-to.false))
    ] in
    journal_kept ends c.args.host c.args.to s c.args.items.now.items c.if-peer-to.items.items c.add_came.new.items.items first.0 (came_items c.args.peer c.args.host s.past)
    first.1.0 c.in_ok-add_came.ensures first.1.1 (came_kept ends c.args.host c.args.to s c.if-host-to.true)

pub returns-else-host-to : goal.returns-else-host-to
returns-else-host-to c =
    let ends = host_views c.args.hosts.now in
    let s : FinalJournal = record { peer = c.args.peer; past = c.args.journal.now.past } in
    let first : (a : List Item) × ((c.if-peer-to.items.items ≡ c.args.items.now.items ++ a) × (filter (is_to c.args.to) (sent ends c.args.host c.args.to s) ≡ a)) =
    elim c.if-peer-to.branch [
      | then-peer-to+in_ok-add_sent w ↦ (
        sent ends c.args.host c.args.to s,
        (
          ap (λ v. v.items) w.items-is ∙ w.in_ok-add_sent.ensures
              ∙ ap (λ (back : List Entry). c.args.items.now.items ++ sent_items c.args.host c.args.peer (is_lost s.past back) s.past) w.journal_of-back.ensures,
          sent_kept ends c.args.host c.args.to s w.if-peer-to.true,
        ),
      )
      | else-peer-to w ↦ ([], (ap (λ v. v.items) w.items-is ∙ sym (append-nil c.args.items.now.items), sent_gone ends c.args.host c.args.to s w.if-peer-to.false))
    ] in
    journal_kept ends c.args.host c.args.to s c.args.items.now.items c.if-peer-to.items.items c.if-peer-to.items.items first.0 []
    first.1.0 (sym (append-nil c.if-peer-to.items.items)) first.1.1 (came_gone ends c.args.host c.args.to s c.if-host-to.false)
