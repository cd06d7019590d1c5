use Rattle.std.proofs.Common.{◌≡◌, ◌∙◌, sym, ap, subst, slice_get, Option, Some, None, ℕ, arith, get_or}
use Rattle.std.proofs.lemmas.List.{get_or_read}
use Rattle.rds_msgs_lists.specs.Lists.{IsOn}
use Rattle.rds_msgs.specs.Messages.{StoreView}
use Rattle.rds_msgs.specs.Kept.{count_before, messages_at, no_message}
use Rattle.rds_msgs.proofs.Counts.{read_at}
use Rattle.rds_msgs.proofs.Calls.{read_none}
use Rattle.rds_msgs.proofs.Places.{some_if}
use Rattle.rds_msgs.proofs.store.Store.next_to_pull.Goals as goal

pub returns-in_err-at : goal.returns-in_err-at
returns-in_err-at c =
    let i = c.self.inside in
    rw c.from_residual.ensures
    (subst (λ (h : StoreView). None ≡ slice_get h.messages h.mark) c.self.view_is
    (sym (ap (λ (o : Option ℕ). slice_get (messages_at i.items.items i.lists.places) (count_before o i.lists.places)) (c.in_err-at.was {u = tt}) ∙ read_none i.items.items i.lists.places)))

pub returns : goal.returns
returns c =
    let i = c.self.inside in
    let is = c.in_ok-at.was {u = tt} in
    let on = some_if i.mark (IsOn i.lists.places) c.in_ok-at.at c.self.invariant.kept.marked is in
    let w = c.self.invariant.kept.within c.in_ok-at.at on in
    let r = get_or_read i.items.items c.get.result c.index.result.now (omega (arith, c.get.ensures, w)) c.index.ensures no_message in
    let e = read_at i.items.items c.in_ok-at.at i.lists.places on in
    subst (λ (h : StoreView). Some c.index.result.now ≡ slice_get h.messages h.mark) c.self.view_is
    (ap Some (r ∙ ap (λ (k : ℕ). get_or i.items.items k no_message) c.get.ensures)
    ∙ (sym e ∙ ap (λ (o : Option ℕ). slice_get (messages_at i.items.items i.lists.places) (count_before o i.lists.places)) (sym is)))
