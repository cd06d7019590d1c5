use Rattle.std.proofs.Common.{◌≤◌, ℕ, Option, None, List, ◌++◌, arith, refl, sym, ap, subst, ◌∙◌}
use Rattle.std.proofs.lemmas.List.{append-nil}
use Rattle.rds_model.specs.declared.entry.TheConstants.{NO_SLOT}
use Rattle.rds_msgs_lists.specs.Lists.{IsOn, first_index, of_socket}
use Rattle.rds_msgs.proofs.Calls.{untouched}
use Rattle.rds_msgs.proofs.Places.{none_is, not_true, some_if}
use Rattle.rds_msgs.proofs.Visiting.{Visits, visits_first, visits_next, visits_end, further, number_is}
use Rattle.rds_msgs.proofs.slot_walk.push_covered.Goals as goal

pub returns-then-not-has_slot : goal.returns-then-not-has_slot
returns-then-not-has_slot c =
    let u = untouched c.args.slot c.args.target c.args.lists.now c.args.items.now None c.args.slots c.requires.kept (λ h. not_true ((c.if-not-has_slot.ensures {u = tt}).1 h)) in
    record { ok = rw u.none (sym (append-nil c.args.out.now.items)) }

pub loop-next-init : goal.loop-next-init
loop-next-init c =
    visits_first c.args.items.now c.args.slots c.args.slot c.args.target c.args.lists.now.places c.args.out.now.items c.first_of-next.result
    (c.first_of-next.ensures.first ∙ ap (λ (s : ℕ). first_index (of_socket s c.args.lists.now.places)) c.list_of.ensures.list) c.first_of-next.ensures.on

pub loop-next-smaller : goal.loop-next-smaller
loop-next-smaller c =
    let on = some_if c.loop-next.next (IsOn c.args.lists.now.places) c.in-Some.at c.loop-next.invariant.on c.in-Some.is in
    let f = further c.in-Some.at c.after_of-behind.result c.args.lists.now.places c.requires.kept.distinct on c.after_of-behind.ensures.next in
    rw c.in-Some.is (omega (arith, f.0, f.1))

pub loop-next-preserved : goal.loop-next-preserved
loop-next-preserved c =
    let v = subst (λ (o : Option ℕ). Visits c.args.items.now c.args.slots c.args.slot c.args.target c.args.lists.now.places c.args.out.now.items o c.loop-next.out.items) c.in-Some.is c.loop-next.invariant in
    let most : c.args.slots ≤ NO_SLOT = omega (arith, c.ranges.slots.fits) in
    visits_next c.args.items.now c.args.slots c.args.slot c.args.target c.args.lists.now.places c.args.out.now.items most ((c.if-not-has_slot.ensures {u = tt}).0 refl) c.requires.kept.listed
    c.in-Some.at c.after_of-behind.result c.message-m.result c.loop-next.out.items c.push_where.new.out.items v c.message-m.ensures c.after_of-behind.ensures.next c.after_of-behind.ensures.on
    (λ e. c.in_ok-push_where.ensures.ok ∙ ap (λ (ns : List ℕ). c.loop-next.out.items ++ ns)
    (number_is c.args.items.now c.args.slots c.args.slot c.args.target c.args.lists.now.places c.args.out.now.items c.message-m.result c.covers.result (e ∙ sym c.covers.ensures)))

pub returns : goal.returns
returns c =
    let v = subst (λ (o : Option ℕ). Visits c.args.items.now c.args.slots c.args.slot c.args.target c.args.lists.now.places c.args.out.now.items o c.loop-next.out.items) (none_is c.loop-next.next c.in_default.not-Some) c.loop-next.invariant in
    let most : c.args.slots ≤ NO_SLOT = omega (arith, c.ranges.slots.fits) in
    record { ok = visits_end c.args.items.now c.args.slots c.args.slot c.args.target c.args.lists.now.places c.args.out.now.items most ((c.if-not-has_slot.ensures {u = tt}).0 refl) c.requires.kept.listed c.loop-next.out.items v }
