use Rattle.std.proofs.Common.{◌≡◌, ap, ◌∙◌, subst}
use Rattle.rds_bindtab.specs.Seats.{PortSeat, joined, note_of, note_of_steps, after_look}
use Rattle.rds_bindtab.specs.Shared.{Taught}
use Rattle.rds_bindtab.proofs.Seated.{some_of}
use Rattle.rds_bindtab.proofs.Tellings.{finds_holder}
use Rattle.rds_bindtab.proofs.tests.found_when_told.Goals as goal

pub returns-clause-found : goal.returns-clause-found
returns-clause-found c =
    let v = c.args.holder.now.view in
    let w = c.args.other.now.view in
    let slot = some_of v.slot c.requires.slot in
    let told : c.tell.new.to.view ≡ joined w (note_of v) = ap (λ (h : PortSeat). h.view) c.tell.ensures.told in
    let looked : c.look-found.new.seat.view ≡ after_look (joined w (note_of v)) c.args.port c.look-found.result = ap (λ (h : PortSeat). h.view) c.look-found.ensures.seat ∙ ap (λ x. after_look x c.args.port c.look-found.result) told in
    let noted = ap (λ (h : PortSeat). h.view) c.note_steps-steps.ensures.note ∙ ap note_of_steps looked in
    let heard : c.hear.new.to.view ≡ joined v (note_of_steps (after_look (joined w (note_of v)) c.args.port c.look-found.result)) =
    ap (λ (h : PortSeat). h.view) c.hear.ensures ∙ (ap (λ (h : PortSeat). joined h.view c.note_steps-steps.result.view) c.tell.ensures.same ∙ ap (joined v) noted) in
    let learnt = ap (λ (h : PortSeat). h.view) c.learn.ensures.same ∙ heard in
    finds_holder _ slot.0 c.args.port v w c.look-found.result slot.1 c.requires.port (subst (Taught c.args.table.now.slots) learnt c.learn.ensures.rule)
