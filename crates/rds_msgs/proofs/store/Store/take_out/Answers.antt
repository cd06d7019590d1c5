use Rattle.std.proofs.Common.{◌≡◌, sym, ap, subst}
use Rattle.rds_msgs.specs.Messages.{StoreView, after_cancel, bytes_of, covered_messages}
use Rattle.rds_msgs.proofs.Calls.{untouched}
use Rattle.rds_msgs.proofs.Places.{not_true}
use Rattle.rds_msgs.proofs.store.Store.take_out.Goals as goal

pub returns-then-not-has_slot-clause-bytes : goal.returns-then-not-has_slot-clause-bytes
returns-then-not-has_slot-clause-bytes g c =
    let i = c.self.inside in
    let u = untouched c.args.slot c.args.target i.lists i.items.items i.mark i.slots c.self.invariant.kept (λ h. not_true ((c.if-not-has_slot.ensures {u = tt}).1 h)) in
    subst (λ (h : StoreView). 0 ≡ bytes_of (covered_messages c.args.slot c.args.target h.messages)) c.self.view_is (sym (ap bytes_of u.none))

pub returns-then-not-has_slot-clause-rest : goal.returns-then-not-has_slot-clause-rest
returns-then-not-has_slot-clause-rest g c =
    let i = c.self.inside in
    let u = untouched c.args.slot c.args.target i.lists i.items.items i.mark i.slots c.self.invariant.kept (λ h. not_true ((c.if-not-has_slot.ensures {u = tt}).1 h)) in
    subst (λ (h : StoreView). h ≡ after_cancel c.args.slot c.args.target h) c.self.view_is u.same
