use Rattle.std.proofs.Common.{◌≡◌, ◌+◌, ◌<◌, length, subst, sym, ap, refl, ◌∙◌, Option, ℕ}
use Rattle.rds_msgs_lists.specs.Lists.{IsOn}
use Rattle.rds_msgs.specs.Messages.{StoreView}
use Rattle.rds_msgs.specs.Kept.{count_before, seen}
use Rattle.rds_msgs.proofs.Calls.{mark_next, all_pulled}
use Rattle.rds_msgs.proofs.Places.{some_if}
use Rattle.rds_msgs.proofs.store.Store.mark_pulled.Goals as goal

pub returns-in-Some : goal.returns-in-Some
returns-in-Some c =
    let i = c.self.inside in
    let on = some_if i.mark (IsOn i.lists.places) c.in-Some.at c.self.invariant.kept.marked c.in-Some.is in
    let n : count_before c.after-self-inside.result i.lists.places ≡ count_before i.mark i.lists.places + 1 =
    mark_next i.items.items i.lists.places c.in-Some.at c.after-self-inside.result c.self.invariant.kept.distinct on c.after-self-inside.ensures.next
    ∙ ap (λ (o : Option ℕ). count_before o i.lists.places + 1) (sym c.in-Some.is) in
    subst (λ (h : StoreView). seen i.lists i.items.items c.after-self-inside.result i.slots ≡ record h { mark = h.mark + 1 }) c.self.view_is (rw n refl)

pub returns-in_default : goal.returns-in_default
returns-in_default c =
    let i = c.self.inside in
    absurd (all_pulled i.items.items i.mark i.lists.places c.in_default.is (subst (λ (h : StoreView). h.mark < length h.messages) (sym c.self.view_is) c.requires))
