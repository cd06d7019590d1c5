use Rattle.std.proofs.Common.{◌≡◌, ◌+◌, ◌↔◌, IsTrue, length, subst, sym, false, Option, ℕ}
use Rattle.rds_msgs_lists.specs.Lists.{IsOn}
use Rattle.rds_msgs.specs.Messages.{StoreView}
use Rattle.rds_msgs.specs.Kept.{count_before, messages_at}
use Rattle.rds_msgs.proofs.Calls.{none_last, last_is, is_none_decides}
use Rattle.rds_msgs.proofs.Places.{not_true, some_if}
use Rattle.rds_msgs.proofs.store.Store.is_last.Goals as goal

pub returns-in-None : goal.returns-in-None
returns-in-None c =
    let i = c.self.inside in
    subst (λ (h : StoreView). IsTrue false ↔ (h.mark + 1 ≡ length h.messages)) c.self.view_is
    ((λ f. absurd (not_true f)), (λ e. absurd (none_last i.items.items i.mark i.lists.places c.in-None.is e)))

pub returns-in-Some : goal.returns-in-Some
returns-in-Some c =
    let i = c.self.inside in
    let on = some_if i.mark (IsOn i.lists.places) c.in-Some.at c.self.invariant.kept.marked c.in-Some.is in
    let l = last_is i.items.items i.lists.places c.in-Some.at c.after.result c.self.invariant.kept.distinct on c.after.ensures.next in
    let d = is_none_decides c.after.result c.is_none.result c.is_none.ensures in
    subst (λ (h : StoreView). IsTrue c.is_none.result ↔ (h.mark + 1 ≡ length h.messages)) c.self.view_is
    (subst (λ (o : Option ℕ). IsTrue c.is_none.result ↔ (count_before o i.lists.places + 1 ≡ length (messages_at i.items.items i.lists.places))) (sym c.in-Some.is)
    ((λ t. l.0 (d.0 t)), (λ e. d.1 (l.1 e))))
