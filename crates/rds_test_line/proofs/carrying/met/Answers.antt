use Rattle.std.proofs.Common.{sym, ap, subst, ◌∙◌}
use Rattle.rds_link.specs.Memory.{memory_means}
use Rattle.rds_line_channel.specs.Meeting.{AtEach}
use Rattle.rds_line_channel.specs.Streams.{numbers}
use Rattle.rds_test_line.proofs.carrying.met.Goals as goal

pub meet-requires-clause-numbers : goal.meet-requires-clause-numbers
meet-requires-clause-numbers c =
    ap (λ l. numbers l) c.open-2.ensures.list ∙ (c.requires.numbers ∙ sym (ap (λ l. numbers l) c.open.ensures.list))

pub meet-requires-clause-pairs : goal.meet-requires-clause-pairs
meet-requires-clause-pairs c =
    let first = c.args.a.now.streams.list in
    let second = c.open-2.new.c.streams.list in
    subst (λ l. AtEach memory_means.meets l second) (sym c.open.ensures.list)
    (subst (λ l. AtEach memory_means.meets first l) (sym c.open-2.ensures.list) c.requires.pairs)
