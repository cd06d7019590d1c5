use Rattle.std.proofs.Common.{List, All, sym, subst, ◌∙◌}
use Rattle.std.proofs.lemmas.Iterator.Adapters.{YieldsList-from_vec}
use Rattle.std.proofs.lemmas.Iterator.Consumers.{YieldsList-end}
use Rattle.std.proofs.lemmas.List.{map-id}
use Rattle.std.proofs.lemmas.List.Elements.{All-push}
use Rattle.rds_bindtab.specs.Seats.{PortSeat}
use Rattle.rds_host_end.specs.Heard.{ClaimsNothing, FitsLooks}
use Rattle.rds_host_end.proofs.owners.show_slots.Goals as goal

pub show_slot-requires-clause-claims : goal.show_slot-requires-clause-claims
show_slot-requires-clause-claims c = subst (λ (s : PortSeat). ClaimsNothing s.view.steps) (sym c.loop-slot.invariant.0) c.requires.claims

pub loop-slot-preserved : goal.loop-slot-preserved
loop-slot-preserved c =
    let slot = c.in-Some.slot in
    let same = c.loop-slot.invariant.0 in (
      c.show_slot.ensures.same ∙ same,
      All-push (λ (s : PortSeat). FitsLooks c.args.seen.now.view.steps s.view) c.loop-slot.yielded slot c.loop-slot.invariant.1
          (subst (λ (s : PortSeat). FitsLooks s.view.steps slot.view) same c.show_slot.ensures.fits),
    )

pub returns : goal.returns
returns c =
    let slots = c.args.slots.items in
    let all = YieldsList-end (YieldsList-from_vec slots c.into_iter-slot-iterator.ensures.into_iter_gives.0 (c.into_iter-slot-iterator.ensures.into_iter_gives.1 ∙ c.args.slots.ok.0)) c.loop-slot.yielded c.loop-slot.slot-iterator c.loop-slot.yielded_by c.next.result c.next.new.self c.in-None.is c.next.ensures.steps in
    subst (λ (l : List PortSeat). All (λ (s : PortSeat). FitsLooks c.args.seen.now.view.steps s.view) l) (sym (map-id c.loop-slot.yielded) ∙ all.0) c.loop-slot.invariant.1
