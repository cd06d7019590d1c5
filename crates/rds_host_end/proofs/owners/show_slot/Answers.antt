use Rattle.std.proofs.Common.{subst}
use Rattle.rds_bindtab.specs.declared.view.View.{View}
use Rattle.rds_bindtab.specs.Shared.{Taught}
use Rattle.rds_host_end.proofs.Owning.{fits_own, view_after}
use Rattle.rds_host_end.proofs.owners.show_slot.Goals as goal

-- refused where the slot's seat isn't told of the looks
pub returns-clause-fits : goal.returns-clause-fits
returns-clause-fits c =
    let slots = c.deref-3.result.now.slots in
    let view = view_after c.args.slot c.into_parts-table.result.1 c.args.seen.now c.note_steps-note.result c.hear.new.to c.learn.new.seat
    c.into_parts-table.ensures.seat c.note_steps-note.ensures.note c.hear.ensures c.learn.ensures.same in
    fits_own slots c.args.slot.view c.args.seen.now.view (subst (λ (v : View). Taught slots v) view c.learn.ensures.rule) c.requires.claims
