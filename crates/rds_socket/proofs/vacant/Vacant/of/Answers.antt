use Rattle.std.proofs.Common.{◌≡◌, ◌∙◌, Some, None, unwrap_or, sym, ap, subst}
use Rattle.rds_bindtab.specs.Seats as seats
use Rattle.rds_meter.specs.Seats as meter
use Rattle.rds_socket_parts.specs.Ports.{HasClaimedOnly}
use Rattle.rds_socket_parts.specs.Words.{Purse, IsQuietSeat}
use Rattle.rds_socket_parts.specs.Lanes.{ArePutOf}
use Rattle.rds_socket.proofs.Kept.{vacant_of}
use Rattle.rds_socket.proofs.vacant.Vacant.of.Goals as goal

pub invariant_of-result : goal.invariant_of-result
invariant_of-result g c =
    let at = c.new-ports.ensures in
    let is = c.new-words.ensures in
    let slot : c.new-words.result.slot ≡ seats.slot_of c.args.seat.view = ap (λ (p : Purse). p.slot) is ∙ (c.unwrap_or-slot.ensures ∙ ap (λ o. unwrap_or o 0) c.slot.ensures) in
    let own = ap (λ (p : Purse). p.seat) is in
    vacant_of c.new-ports.result c.new-words.result c.new-inbox.result c.new-routes.result
    (ap (λ (h : seats.PortSeat). h.view.slot) at ∙ (c.requires.slot.0 ∙ ap Some (sym slot)))
    (ap (λ (h : seats.PortSeat). h.view.port) at ∙ c.requires.port.0)
    (subst (λ (h : seats.PortSeat). HasClaimedOnly None h.view) (sym at) c.requires.port.1)
    (subst (λ (h : meter.MeterSeat). IsQuietSeat c.new-words.result.slot h.view) (sym own) (subst (λ s. IsQuietSeat s c.args.own.view) (sym slot) c.requires.quiet))
    (subst (λ l. ArePutOf c.new-words.result.slot l) (sym c.new-routes.ensures) (subst (λ s. ArePutOf s c.args.routes.items) (sym slot) c.requires.orders))
