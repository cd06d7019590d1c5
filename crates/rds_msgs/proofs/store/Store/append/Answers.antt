use Rattle.std.proofs.Common.{◌≡◌, ◌≤◌, ◌<◌, ◌-◌, ◌∷◌, [], ◌++◌, min, length, subst, sym, ap, ◌∙◌, ℕ, arith, length-append}
use Rattle.std.proofs.lemmas.List.{length-map}
use Rattle.std.specs.List.{All}
use Rattle.rds_model.specs.declared.entry.Msg.{Msg}
use Rattle.rds_msgs_lists.specs.Lists.{after_push}
use Rattle.rds_msgs.specs.declared.store.TheConstants.{MAX_MESSAGES}
use Rattle.rds_msgs.specs.Messages.{StoreView}
use Rattle.rds_msgs.specs.Kept.{HasSlot, seen, message_at}
use Rattle.rds_msgs.proofs.Keeping.{Written, kept_with}
use Rattle.rds_msgs.proofs.Calls.{appended}
use Rattle.rds_msgs.proofs.store.Store.append.Goals as goal
use Rattle.rds_msgs.proofs.store.Store.append.Goals.{After-put}

written : (c : After-put) → Written c.self.inside.items.items c.put.new.items.items c.push-at.result c.args.m
written c = record { here = c.put.ensures.here; others = c.put.ensures.others; len = c.put.ensures.len }

pushed : (c : After-put) → c.push-at.new.self ≡ after_push c.push-at.result (min c.args.m.slot c.self.inside.slots) c.self.inside.lists
pushed c = c.push-at.ensures.pushed ∙ ap (λ (s : ℕ). after_push c.push-at.result s c.self.inside.lists) c.list_of.ensures.list

pub invariant_of-self : goal.invariant_of-self
invariant_of-self c =
    let d = (goal.at.invariant_of-self c).After-put in
    let i = c.self.inside in
    let own = subst (λ (h : StoreView). HasSlot h.slots c.args.m.slot) (sym c.self.view_is) c.requires.owned in
    let above = subst (λ (h : StoreView). All (λ (k : Msg). k.num < c.args.m.num) h.messages) (sym c.self.view_is) c.requires.above in
    let few = subst (λ (h : StoreView). length h.messages < MAX_MESSAGES) (sym c.self.view_is) c.requires.few in
    let room = subst (λ (h : StoreView). 1 ≤ h.spare) (sym c.self.view_is) c.requires.room in
    let n = length-map i.lists.places (message_at i.items.items) in
    let m = length-append i.lists.places (record { index = c.push-at.result; socket = min c.args.m.slot i.slots } ∷ []) in
    let kept = kept_with i.lists i.items.items c.put.new.items.items i.mark i.slots c.push-at.result c.args.m c.self.invariant.kept c.push-at.ensures.off (written d) own (omega arith) above in
    let r = c.self.invariant.room in
    rw (c.marked-self-inside.ensures, pushed d, c.put.ensures.capacity) (record { kept = kept; room = omega arith })

pub returns : goal.returns
returns c =
    let d = (goal.at.returns c).After-put in
    let i = c.self.inside in
    let a = appended i.lists i.items.items c.put.new.items.items i.mark i.slots c.push-at.result c.args.m c.self.invariant.kept c.push-at.ensures.off (written d) in
    subst (λ (h : StoreView). seen c.push-at.new.self c.put.new.items.items c.marked-self-inside.result i.slots ≡ record h { messages = h.messages ++ c.args.m ∷ []; spare = h.spare - 1 }) c.self.view_is
    (rw (c.marked-self-inside.ensures, pushed d) a)
