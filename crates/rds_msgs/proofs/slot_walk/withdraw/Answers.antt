use Rattle.std.proofs.Common.{◌≤◌, ℕ, Option, arith, ap, subst, ◌∙◌}
use Rattle.rds_model.specs.declared.entry.TheConstants.{NO_SLOT}
use Rattle.rds_msgs_lists.specs.Lists.{first_index, of_socket}
use Rattle.rds_msgs.proofs.Walking.{Walks, Ended, walks_first, walks_past, walks_off, walks_end, fits_more}
use Rattle.rds_msgs.proofs.Places.{none_is}
use Rattle.rds_msgs.proofs.slot_walk.withdraw.Given.{Over}
use Rattle.rds_msgs.proofs.slot_walk.withdraw.Goals as goal
use Rattle.rds_msgs.proofs.slot_walk.withdraw.Goals.{In_default}

pub loop-next-init : goal.loop-next-init
loop-next-init g c =
    walks_first c.args.items.now c.args.slots c.args.slot c.args.target c.args.lists.now c.args.mark c.tick.new.self c.first_of-next.result c.requires.kept
    (c.first_of-next.ensures.first ∙ ap (λ (s : ℕ). first_index (of_socket s c.args.lists.now.places)) c.list_of.ensures.list) c.first_of-next.ensures.on

pub overflow_add-left : goal.overflow_add-left
overflow_add-left g c =
    let w = subst (λ (o : Option ℕ). Walks c.args.items.now c.args.slots c.args.slot c.args.target c.args.lists.now c.args.mark c.tick.new.self c.loop-next.lists c.loop-next.left.mark o c.loop-next.left.bytes c.loop-next.steps) c.in-Some.is c.loop-next.invariant in
    let most : c.args.slots ≤ NO_SLOT = omega (arith, c.ranges.slots.fits) in
    let f = fits_more c.args.items.now c.args.slots c.args.slot c.args.target most c.requires.slot c.args.lists.now c.args.mark c.tick.new.self c.loop-next.lists c.loop-next.left.mark c.loop-next.left.bytes c.loop-next.steps c.in-Some.at c.requires.kept w in
    let few = c.bytes.ensures.few in
    omega arith

pub loop-next-preserved-then-covers : goal.loop-next-preserved-then-covers
loop-next-preserved-then-covers g c =
    let w = subst (λ (o : Option ℕ). Walks c.args.items.now c.args.slots c.args.slot c.args.target c.args.lists.now c.args.mark c.tick.new.self c.loop-next.lists c.loop-next.left.mark o c.loop-next.left.bytes c.loop-next.steps) c.in-Some.is c.loop-next.invariant in
    let most : c.args.slots ≤ NO_SLOT = omega (arith, c.ranges.slots.fits) in
    let small : c.message-m.result.len ≤ 4294967295 = omega (arith, c.bytes.ensures.bytes, c.bytes.ensures.few) in
    rw (c.bytes.ensures.bytes, c.tick-in-Some.ensures)
    (walks_off c.args.items.now c.args.slots c.args.slot c.args.target most c.requires.slot c.args.lists.now c.args.mark c.tick.new.self c.loop-next.lists c.loop-next.left.mark c.loop-next.left.bytes c.loop-next.steps
    c.in-Some.at c.after_of-next.result c.message-m.result c.take_off-left.new.lists c.take_off-left.result w c.message-m.ensures c.covers.result c.covers.ensures c.if-covers.true small
    c.after_of-next.ensures.next c.after_of-next.ensures.on c.take_off-left.ensures.left c.take_off-left.ensures.mark)

pub loop-next-preserved : goal.loop-next-preserved
loop-next-preserved g c =
    let w = subst (λ (o : Option ℕ). Walks c.args.items.now c.args.slots c.args.slot c.args.target c.args.lists.now c.args.mark c.tick.new.self c.loop-next.lists c.loop-next.left.mark o c.loop-next.left.bytes c.loop-next.steps) c.in-Some.is c.loop-next.invariant in
    let most : c.args.slots ≤ NO_SLOT = omega (arith, c.ranges.slots.fits) in
    rw c.tick-in-Some.ensures
    (walks_past c.args.items.now c.args.slots c.args.slot c.args.target most c.requires.slot c.args.lists.now c.args.mark c.tick.new.self c.loop-next.lists c.loop-next.left.mark c.loop-next.left.bytes c.loop-next.steps
    c.in-Some.at c.after_of-next.result c.message-m.result w c.message-m.ensures c.covers.result c.covers.ensures c.if-covers.false c.after_of-next.ensures.next c.after_of-next.ensures.on)

ended : (g : Over) (c : In_default g) → Ended c.args.items.now c.args.slots c.args.slot c.args.target c.args.lists.now c.args.mark c.tick.new.self c.loop-next.lists c.loop-next.left.mark c.loop-next.left.bytes c.loop-next.steps
ended g c =
    let w = subst (λ (o : Option ℕ). Walks c.args.items.now c.args.slots c.args.slot c.args.target c.args.lists.now c.args.mark c.tick.new.self c.loop-next.lists c.loop-next.left.mark o c.loop-next.left.bytes c.loop-next.steps) (none_is c.loop-next.next c.in_default.not-Some) c.loop-next.invariant in
    walks_end c.args.items.now c.args.slots c.args.slot c.args.target (let most : c.args.slots ≤ NO_SLOT = omega (arith, c.ranges.slots.fits) in most) c.requires.slot c.args.lists.now c.args.mark c.tick.new.self c.loop-next.lists c.loop-next.left.mark c.loop-next.left.bytes c.loop-next.steps c.requires.kept w

pub returns-clause-left : goal.returns-clause-left
returns-clause-left g c = (ended g c).left

pub returns-clause-bytes : goal.returns-clause-bytes
returns-clause-bytes g c = (ended g c).taken

pub returns-clause-cost : goal.returns-clause-cost
returns-clause-cost g c =
    let cost = (ended g c).cost in
    let first = c.tick.ensures in
    omega arith
