use Rattle.std.proofs.Common.{◌≡◌, All, sym, ap, subst, ◌∙◌}
use Rattle.rds_seats.specs.Views.{Table}
use Rattle.rds_bindtab.specs.Seats.{PortSeat}
use Rattle.rds_host_end.specs.Heard.{ClaimsNothing, HasHeard}
use Rattle.rds_host_end.proofs.Owning.{all_claimed, all_of_both, some_there, tables_of_lines, tables_of_slots}
use Rattle.rds_host_end.proofs.owners.find_owners.Goals as goal

pub hear_lines-requires-clause-tables : goal.hear_lines-requires-clause-tables
hear_lines-requires-clause-tables c =
    let slots = c.args.slots in
    let front = c.pop.new.self.items in
    subst (λ (s : PortSeat). All (λ (line : PortSeat). s.table ≡ line.table) front) (sym c.into_parts-table.ensures.seat)
    (tables_of_lines slots.items c.args.lines.items front c.in-Some.last c.in-Some.ensures.items c.requires.tables
    (some_there slots.items slots.len slots.ok.0 (sym c.is_empty.ensures ∙ c.if-is_empty.false)))

pub hear_lines-requires-clause-claims : goal.hear_lines-requires-clause-claims
hear_lines-requires-clause-claims c =
    (all_of_both c.args.slots.items c.args.lines.items c.pop.new.self.items c.in-Some.last c.in-Some.ensures.items (λ (line : PortSeat). ClaimsNothing line.view.steps) c.requires.claims).0

pub hear_lines-requires-clause-own : goal.hear_lines-requires-clause-own
hear_lines-requires-clause-own c =
    subst (λ (s : PortSeat). ClaimsNothing s.view.steps) (sym c.into_parts-table.ensures.seat)
    (all_of_both c.args.slots.items c.args.lines.items c.pop.new.self.items c.in-Some.last c.in-Some.ensures.items (λ (line : PortSeat). ClaimsNothing line.view.steps) c.requires.claims).1

pub show_slots-requires-clause-tables : goal.show_slots-requires-clause-tables
show_slots-requires-clause-tables c =
    let slots = c.args.slots.items in
    subst (λ (t : Table). All (λ (slot : PortSeat). slot.table ≡ t) slots) (sym (c.hear_lines.ensures.table ∙ ap (λ (s : PortSeat). s.table) c.into_parts-table.ensures.seat))
    (tables_of_slots slots c.args.lines.items c.pop.new.self.items c.in-Some.last c.in-Some.ensures.items c.requires.tables)

-- refused where the slots' seats aren't told, or a line is left out
pub returns-in-Some : goal.returns-in-Some
returns-in-Some c =
    let front = c.pop.new.self.items in
    let seen = c.hear_lines.new.seen in
    all_claimed c.args.slots.items c.args.lines.items front c.in-Some.last c.in-Some.ensures.items seen
    (subst (λ (s : PortSeat). HasHeard s front seen) c.into_parts-table.ensures.seat c.hear_lines.ensures) c.show_slots.ensures
