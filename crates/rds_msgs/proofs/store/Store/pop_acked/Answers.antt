use Rattle.std.proofs.Common.{◌≡◌, ◌<◌, ◌∷◌, ◌∙◌, ap, sym, subst, arith, get_or}
use Rattle.std.specs.List.{All}
use Rattle.rds_model.specs.declared.entry.Msg.{Msg}
use Rattle.rds_msgs.specs.Messages.{StoreView, without_first}
use Rattle.rds_msgs.specs.Kept.{messages_at, no_message, seen}
use Rattle.rds_msgs.proofs.Order.{above_first}
use Rattle.rds_msgs.proofs.Calls.{Popped, popped, first_read}
use Rattle.rds_msgs.proofs.store.Store.pop_acked.Given.{Over}
use Rattle.rds_msgs.proofs.store.Store.pop_acked.Goals as goal
use Rattle.rds_msgs.proofs.store.Store.pop_acked.Goals.{After-take_off-self-inside}

pub returns-then-m-upto-clause-unacked : goal.returns-then-m-upto-clause-unacked
returns-then-m-upto-clause-unacked g c =
    let i = c.self.inside in
    let first = sym (c.in_ok-at.was {u = tt}) ∙ c.first.ensures.first in
    let m = c.message-m.ensures ∙ ap (λ (ms : _). get_or ms c.in_ok-at.at no_message) c.deref.ensures.value in
    subst (λ (h : StoreView). All (λ (m : Msg). c.args.upto < m.num) h.messages) c.self.view_is
    (above_first c.args.upto (messages_at i.items.items i.lists.places) c.message-m.result c.self.invariant.kept.ascending (first_read i.items.items i.lists.places c.in_ok-at.at c.message-m.result first m) c.if-m-upto.true)

left : (g : Over) (c : After-take_off-self-inside g) → Popped c.self.inside.lists c.self.inside.items.items c.self.inside.mark c.self.inside.slots c.message-m.result c.take_off-self-inside.new.lists c.take_off-self-inside.result
left g c =
    let i = c.self.inside in
    let first = sym (c.in_ok-at.was {u = tt}) ∙ c.first.ensures.first in
    let m = c.message-m.ensures ∙ ap (λ (ms : _). get_or ms c.in_ok-at.at no_message) c.deref.ensures.value in
    popped i.lists i.items.items i.mark i.slots c.in_ok-at.at c.message-m.result c.take_off-self-inside.new.lists c.take_off-self-inside.result c.self.invariant.kept first m c.take_off-self-inside.ensures.left c.take_off-self-inside.ensures.mark

pub invariant_of-self : goal.invariant_of-self
invariant_of-self g c =
    let p = left g (goal.at.invariant_of-self g c).After-take_off-self-inside in
    let a = p.fewer in
    let b = p.spare in
    let room = c.self.invariant.room in
    record { kept = p.kept; room = omega arith }

pub returns-clause-popped : goal.returns-clause-popped
returns-clause-popped g c =
    let p = left g (goal.at.returns-clause-popped g c).After-take_off-self-inside in
    subst (λ (h : StoreView). h.messages ≡ c.message-m.result ∷ messages_at c.self.inside.items.items c.take_off-self-inside.new.lists.places) c.self.view_is p.whole

pub returns-clause-rest : goal.returns-clause-rest
returns-clause-rest g c =
    let p = left g (goal.at.returns-clause-rest g c).After-take_off-self-inside in
    subst (λ (h : StoreView). seen c.take_off-self-inside.new.lists c.self.inside.items.items c.take_off-self-inside.result c.self.inside.slots ≡ without_first h) c.self.view_is p.view
