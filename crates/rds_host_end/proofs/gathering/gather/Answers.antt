use Rattle.std.proofs.Common.{◌≡◌, ℕ, ◌+◌, List, All, map, sym, ap, subst, ◌∙◌, rules}
use Rattle.rds_mail.specs.Passes.{Getter}
use Rattle.rds_model.specs.declared.order.Order.{Order}
use Rattle.rds_bindtab.specs.Seats.{PortSeat}
use Rattle.rds_seats.specs.Views.{total}
use Rattle.rds_meter.specs.Grounds.{seats_of}
use Rattle.rds_meter.specs.Seats.{MeterSeat}
use Rattle.rds_fmap.specs.Readers.{ReaderView, WriterView}
use Rattle.rds_socket_parts.specs.Lanes.{IsOf, Lane}
use Rattle.rds_host_end.specs.Joins.{IsFrom, sender_in, slot_of_order}
use Rattle.rds_socket.specs.Holding.{Holding}
use Rattle.rds_host_end.specs.Columns.{passes_of, rows_left}
use Rattle.rds_host_end.specs.Heard.{ClaimsNothing, FitsLooks}
use Rattle.rds_host_end.specs.Shown.{ArePuttersOf, AreReadersOf, HaveLookedAt, ShowsAllPuts}
use Rattle.rds_host_end.proofs.Columns.{each_same}
use Rattle.rds_host_end.proofs.Cutting.{cuts_of_slots}
use Rattle.rds_host_end.proofs.Joining.{asked_of, beside_maps, box_rows, boxes_fit, joined, looked, orders_fit, readers_fit, route_rows, without_maps}
use Rattle.rds_host_end.proofs.Raising.{all_stand, at_one_meter, grounded, line_words, same_grounds, same_meters, slot_words}
use Rattle.rds_host_end.proofs.Owning.{at_one_table, found, line_seat, lines_claim_nothing, owned, same_seats, slot_seat}
use Rattle.rds_host_end.proofs.gathering.gather.Goals as goal

-- what a line's queue and map show of the routes to it
abbrev Fits : Getter Order × WriterView → List (Lane ReaderView) → Type 0
Fits two lanes = ArePuttersOf two.0 (passes_of lanes)

abbrev FitsMap : Getter Order × WriterView → List (Lane ReaderView) → Type 0
FitsMap two lanes = AreReadersOf two.1 lanes

abbrev Shows : Getter Order × WriterView → List (Lane ReaderView) → Type 0
Shows two lanes = ShowsAllPuts slot_of_order IsOf two.0 (passes_of lanes)

abbrev Looks : Getter Order × WriterView → List (Lane ReaderView) → Type 0
Looks two lanes = HaveLookedAt two.1.published lanes

-- a slot's seat and a line's are at one table, and the one shows the looks of the other
abbrev AreAtOne : PortSeat → PortSeat → Type 0
AreAtOne slot line = slot.table ≡ line.table

abbrev ShowsLooks : PortSeat → PortSeat → Type 0
ShowsLooks slot line = FitsLooks line.view.steps slot.view

pub find_owners-requires : goal.find_owners-requires
find_owners-requires g c =
    let closed = c.args.closed.items in
    let lines = c.args.lines.items in
    record {
      tables = same_seats AreAtOne (map slot_seat closed) c.in_ok-slots.slots.ports.items (map (line_seat closed lines) lines) c.in_ok-left.left.ports.items
          (sym c.in_ok-slots.ensures.ports) (sym c.in_ok-left.ensures.ports) (at_one_table closed lines c.requires.host);
      claims = subst (λ (l : List PortSeat). All (λ (line : PortSeat). ClaimsNothing line.view.steps) l) (sym c.in_ok-left.ensures.ports)
          (lines_claim_nothing closed lines c.in_ok-left.ensures.kept);
    }

-- seats at the meter at one table
abbrev AreAtOneMeter : MeterSeat → MeterSeat → Type 0
AreAtOneMeter slot line = slot.table ≡ line.table

pub find_grounds-requires : goal.find_grounds-requires
find_grounds-requires g c =
    let closed = c.args.closed.items in
    let lines = c.args.lines.items in
    let stand : List MeterSeat → ℕ = λ (l : List MeterSeat). total (λ (h : MeterSeat). seats_of h.view) l in
    record {
      tables = same_meters AreAtOneMeter (map slot_words closed) c.in_ok-slots.slots.words.items (map line_words lines) c.in_ok-left.left.words.items
          (sym c.in_ok-slots.ensures.words) (sym c.in_ok-left.ensures.words) (at_one_meter closed lines c.requires.host);
      all = ap (λ (l : List MeterSeat). stand l + stand c.in_ok-left.left.words.items) c.in_ok-slots.ensures.words
          ∙ ap (λ (l : List MeterSeat). stand (map slot_words closed) + stand l) c.in_ok-left.ensures.words ∙ all_stand closed lines c.requires.passes;
    }

-- refused where the seats of the slots or of the lines aren't joined
pub returns-clause-grounded : goal.returns-clause-grounded
returns-clause-grounded g c =
    let closed = c.args.closed.items in
    let lines = c.args.lines.items in
    grounded closed lines c.in_ok-slots.ensures.ended c.in_ok-left.ensures.kept
    (same_grounds c.in_ok-slots.slots.words.items (map slot_words closed) c.in_ok-left.left.words.items (map line_words lines)
    c.in_ok-slots.ensures.words c.in_ok-left.ensures.words c.in_ok-find_grounds.ensures)

-- refused where the seats of the slots or of the lines are left out
pub returns-clause-owned : goal.returns-clause-owned
returns-clause-owned g c =
    let closed = c.args.closed.items in
    let lines = c.args.lines.items in
    owned closed lines c.requires.passes c.in_ok-slots.ensures.ended c.in_ok-left.ensures.kept
    (same_seats ShowsLooks c.in_ok-slots.slots.ports.items (map slot_seat closed) c.in_ok-left.left.ports.items (map (line_seat closed lines) lines)
    c.in_ok-slots.ensures.ports c.in_ok-left.ensures.ports c.find_owners.ensures)

pub returns-clause-found : goal.returns-clause-found
returns-clause-found g c =
    let closed = c.args.closed.items in
    let lines = c.args.lines.items in
    found closed lines c.requires.passes c.in_ok-slots.ensures.ended c.in_ok-left.ensures.kept
    (same_seats ShowsLooks c.in_ok-slots.slots.ports.items (map slot_seat closed) c.in_ok-left.left.ports.items (map (line_seat closed lines) lines)
    c.in_ok-slots.ensures.ports c.in_ok-left.ensures.ports c.find_owners.ensures)

pub join_all_orders-requires : goal.join_all_orders-requires
join_all_orders-requires g c =
    let closed = c.args.closed.items in
    let lines = c.args.lines.items in
    let rows : rows_left c.deref_mut.result.now ≡ route_rows closed = ap rows_left c.deref_mut.ensures.value ∙ c.in_ok-slots.ensures.routes in
    record {
      putters = each_same Fits (map asked_of lines) c.in_ok-left.left.orders.items (route_rows closed) (rows_left c.deref_mut.result.now)
          (sym c.in_ok-left.ensures.orders) (sym rows) (beside_maps ArePuttersOf closed lines (orders_fit closed lines c.requires.passes c.requires.host));
      readers = each_same FitsMap (map asked_of lines) c.in_ok-left.left.orders.items (route_rows closed) (rows_left c.deref_mut.result.now)
          (sym c.in_ok-left.ensures.orders) (sym rows) (readers_fit closed lines c.requires.passes c.requires.host);
    }

pub join_all_receipts-requires : goal.join_all_receipts-requires
join_all_receipts-requires g c =
    let closed = c.args.closed.items in
    let lines = c.args.lines.items in
    let rows : rows_left c.deref_mut-2.result.now ≡ box_rows lines = ap rows_left c.deref_mut-2.ensures.value ∙ c.in_ok-left.ensures.boxes in
    record {
      putters = each_same ArePuttersOf (map (λ (h : Holding ReaderView). h.inbox.get) closed) (map (λ b. b.get) c.in_ok-slots.slots.inboxes.items) (box_rows lines) (rows_left c.deref_mut-2.result.now)
          (sym c.in_ok-slots.ensures.inboxes) (sym rows) (boxes_fit closed lines c.requires.passes c.requires.host);
    }

-- refused where the putters of a queue aren't joined
pub returns-clause-joined : goal.returns-clause-joined
returns-clause-joined g c =
    let closed = c.args.closed.items in
    let lines = c.args.lines.items in
    let lanes : rows_left c.deref_mut.result.now ≡ route_rows closed = ap rows_left c.deref_mut.ensures.value ∙ c.in_ok-slots.ensures.routes in
    let boxes : rows_left c.deref_mut-2.result.now ≡ box_rows lines = ap rows_left c.deref_mut-2.ensures.value ∙ c.in_ok-left.ensures.boxes in
    joined closed lines c.requires.passes c.in_ok-slots.ensures.ended c.in_ok-left.ensures.kept
    (without_maps (ShowsAllPuts slot_of_order IsOf) closed lines
    (each_same Shows c.in_ok-left.left.orders.items (map asked_of lines) (rows_left c.deref_mut.result.now) (route_rows closed)
    c.in_ok-left.ensures.orders lanes c.in_ok-join_all_orders.ensures.shown))
    (each_same (ShowsAllPuts sender_in IsFrom) (map (λ b. b.get) c.in_ok-slots.slots.inboxes.items) (map (λ (h : Holding ReaderView). h.inbox.get) closed) (rows_left c.deref_mut-2.result.now) (box_rows lines)
    c.in_ok-slots.ensures.inboxes boxes c.in_ok-join_all_receipts.ensures.shown)

-- refused where the readers of a map aren't joined
pub returns-clause-looks : goal.returns-clause-looks
returns-clause-looks g c =
    let closed = c.args.closed.items in
    let lines = c.args.lines.items in
    let lanes : rows_left c.deref_mut.result.now ≡ route_rows closed = ap rows_left c.deref_mut.ensures.value ∙ c.in_ok-slots.ensures.routes in
    looked closed lines c.requires.passes c.in_ok-left.ensures.kept
    (each_same Looks c.in_ok-left.left.orders.items (map asked_of lines) (rows_left c.deref_mut.result.now) (route_rows closed)
    c.in_ok-left.ensures.orders lanes c.in_ok-join_all_orders.ensures.looks)

pub returns-clause-cut : goal.returns-clause-cut
returns-clause-cut g c = cuts_of_slots c.args.closed.items c.args.lines.items c.requires.passes c.in_ok-left.ensures.cut

-- refused where what was kept is dropped
pub returns-clause-kept : goal.returns-clause-kept
returns-clause-kept g c = search rules
