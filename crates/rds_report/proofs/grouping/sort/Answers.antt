use Rattle.std.proofs.Common.{rules, arith, ◌∙◌, ◌+◌, get_or, sym}
use Rattle.std.proofs.lemmas.List.Sorted.{answers_always}
use Rattle.rds_report.specs.Item.{Item, Accepted}
use Rattle.rds_report.specs.Items.{seen}
use Rattle.rds_report.proofs.Orders.{cmp_before, ties_by}
use Rattle.rds_report.proofs.Chunks.{filter_tests, up_of}
use Rattle.rds_report.proofs.grouping.sort.Goals as goal

pub returns-clause-up : goal.returns-clause-up
returns-clause-up c =
    let items = c.sort_by_key.new.self.items in
    up_of items (λ k d more.
    sym (cmp_before (seen (get_or items (k + 1) d).group) (seen (get_or items k d).group))
    ∙ c.in_ok-sort_by_key.ensures.sorted (λ i. i.group) (answers_always _ _ _ (λ f a r g h. search rules)) k d (omega arith) more)

pub returns-clause-stable : goal.returns-clause-stable
returns-clause-stable c = λ g.
    let first : Item = record { group = record { to = g.to; dport = g.dport; from = g.from; sport = g.sport }; what = Accepted } in
    let kept = c.sort_by_key.ensures.stable (λ i. i.group) (answers_always _ _ _ (λ f a r g h. search rules)) first in
    filter_tests _ _ (λ (i : Item). sym (ties_by g (seen i.group))) c.sort_by_key.new.self.items
    ∙ kept ∙ filter_tests _ _ (λ (i : Item). ties_by g (seen i.group)) c.args.items.now.items
