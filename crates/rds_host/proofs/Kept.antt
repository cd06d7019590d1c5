-- What keeps the slots and the lines of a host keeps what ties them.
use Rattle.std.proofs.Common.{◌≡◌, ℕ, List, Some, length, map, slice_get, option_map, refl, sym, ap, subst, ◌∙◌, arith}
use Rattle.std.proofs.lemmas.Option.{same_Some, slice_get_within, slice_get-map}
use Rattle.std.proofs.lemmas.List.{length-map, same_lists}
use Rattle.std.proofs.lemmas.Option.{get_or_from_slice_get}
use Rattle.atomic_table.specs.Seated.{TableId}
use Rattle.rds_model.specs.declared.order.Datagram.{Datagram}
use Rattle.rds_meter.specs.Grounds.{seats_of}
use Rattle.rds_mail.specs.Passes.{Putter}
use Rattle.rds_fmap.specs.Readers.{HasSeen, ReaderView, WriterView}
use Rattle.rds_socket_parts.specs.Lanes.{Ascend, Fixed, IsLaneAt, Lane, RoutesStay, fixed}
use Rattle.rds_link.specs.Ends.{Means}
use Rattle.rds_line_parts.specs.Boxes.{IsBoxOf}
use Rattle.rds_socket.specs.Holding.{Holding}
use Rattle.rds_line.specs.Line.{LineView}
use Rattle.rds_line.specs.Stays.{AreSameBoxes}
use Rattle.rds_host.specs.Keeping.{LineKeeps, LinesKeep, SlotKeeps, SlotsKeep}
use Rattle.rds_host.specs.Lines.{AreTurned, pair_of}
use Rattle.rds_host.specs.Passes.{AreAllPasses, splits_at}
use Rattle.rds_host.specs.Ties.{AreOfHost}
use Rattle.rds_host.proofs.Pushing.{mapped_at, there_is}
use Rattle.rds_host.proofs.Standing.{total_alike}
use Rattle.rds_host.proofs.Staying.{boxes_same, boxes_through}

-- what stands in one list where something stands in another of the same length
pub beside : {X Y : Type 0} (xs : List X) (ys : List Y) (y : Y) (place : ℕ) → length ys ≡ length xs → slice_get ys place ≡ Some y → (x : X) × (slice_get xs place ≡ Some x)
beside xs ys y place count at = let small = slice_get_within ys place y at in there_is xs place (omega (arith, count, small))

abbrev pub fixed_of : Lane ReaderView → Fixed TableId
fixed_of = fixed (λ (r : ReaderView). r.pair)

abbrev pub RoutesKeep : List (Lane ReaderView) → List (Lane ReaderView) → Type 0
RoutesKeep old new = RoutesStay (λ (r : ReaderView). r.pair) HasSeen old new

-- the route that stood there
pub lane_was : (old new : List (Lane ReaderView)) (place : ℕ) (after : Lane ReaderView) → RoutesKeep old new → IsLaneAt new place after
    → (lane : Lane ReaderView) × IsLaneAt old place lane × (fixed_of lane ≡ fixed_of after)
lane_was old new place after stay at =
    mapped_at fixed_of old (fixed_of after) place
    (ap (λ (l : List (Fixed TableId)). slice_get l place) (sym stay.fixed_parts) ∙ (slice_get-map fixed_of new place ∙ ap (option_map fixed_of) at))

pub routes_count : (old new : List (Lane ReaderView)) → RoutesKeep old new → length new ≡ length old
routes_count old new stay = sym (length-map new fixed_of) ∙ (ap length stay.fixed_parts ∙ length-map old fixed_of)

pub slot_same : (h : Holding ReaderView) → SlotKeeps h h
slot_same h = record {
  stays = record { slot = refl; table = refl; meter = refl; seats = refl; bell = refl; mail = refl; routes = record { fixed_parts = refl; seen = λ place port seen was. was } };
  joined = refl;
}

pub slot_through : (old middle new : Holding ReaderView) → SlotKeeps old middle → SlotKeeps middle new → SlotKeeps old new
slot_through old middle new first second = record {
  stays =
      let a = first.stays in
      let b = second.stays in
      record {
        slot = b.slot ∙ a.slot;
        table = b.table ∙ a.table;
        meter = b.meter ∙ a.meter;
        seats = b.seats ∙ a.seats;
        bell = b.bell ∙ a.bell;
        mail = b.mail ∙ a.mail;
        routes = record { fixed_parts = b.routes.fixed_parts ∙ a.routes.fixed_parts; seen = λ place port seen was. b.routes.seen place port seen (a.routes.seen place port seen was) };
      };
  joined = second.joined ∙ first.joined;
}

pub slots_same : (slots : List (Holding ReaderView)) → SlotsKeep slots slots
slots_same slots = record {
  count = refl;
  each = λ slot h after stood stands. subst (SlotKeeps h) (same_Some h after (sym stood ∙ stands)) (slot_same h);
}

pub slots_through : (old middle new : List (Holding ReaderView)) → SlotsKeep old middle → SlotsKeep middle new → SlotsKeep old new
slots_through old middle new first second = record {
  count = second.count ∙ first.count;
  each = λ slot h after stood stands.
      let between = beside middle old h slot (sym first.count) stood in
      slot_through h between.0 after (first.each slot h between.0 stood between.1) (second.each slot between.0 after between.1 stands);
}

-- the putter that stood there
box_was : (old new : List (Putter Datagram)) (slot : ℕ) (after : Putter Datagram) → AreSameBoxes old new → IsBoxOf new slot after
    → (box : Putter Datagram) × IsBoxOf old slot box × ((after.mail ≡ box.mail) × (after.number ≡ box.number) × (after.splits ≡ box.splits))
box_was old new slot after same at =
    let box = beside old new after slot same.count at in
    (box.0, box.1, same.each slot box.0 after box.1 at)

module _ {E : Type 0} where
  line_same : (line : LineView E WriterView) → LineKeeps line line
  line_same line = record { peer = refl; mail = refl; joined = refl; boxes = boxes_same line.boxes; ports = refl; words = refl; seats = refl; pair = refl }

  line_through : (old middle new : LineView E WriterView) → LineKeeps old middle → LineKeeps middle new → LineKeeps old new
  line_through old middle new a b = record {
    peer = b.peer ∙ a.peer;
    mail = b.mail ∙ a.mail;
    joined = b.joined ∙ a.joined;
    boxes = boxes_through old.boxes middle.boxes new.boxes a.boxes b.boxes;
    ports = b.ports ∙ a.ports;
    words = b.words ∙ a.words;
    seats = b.seats ∙ a.seats;
    pair = b.pair ∙ a.pair;
  }

  pub kept_same : (lines : List (LineView E WriterView)) → LinesKeep lines lines
  kept_same lines = record {
    count = refl;
    each = λ place line after stood stands. subst (LineKeeps line) (same_Some line after (sym stood ∙ stands)) (line_same line);
  }

  pub kept_through : (old middle new : List (LineView E WriterView)) → LinesKeep old middle → LinesKeep middle new → LinesKeep old new
  kept_through old middle new first second = record {
    count = second.count ∙ first.count;
    each = λ place line after stood stands.
        let between = beside middle old line place (sym first.count) stood in
        line_through line between.0 after (first.each place line between.0 stood between.1) (second.each place between.0 after between.1 stands);
  }

  pub turned_kept : (m : Means E) (old new : List (LineView E WriterView)) → AreTurned m pair_of old new → LinesKeep old new
  turned_kept m old new turned = record {
    count = turned.count;
    each = λ place line after stood stands.
        let t = turned.each place line after stood stands in
        record { peer = t.channel.peer; mail = t.mail; joined = t.joined; boxes = t.boxes; ports = t.ports; words = t.words; seats = ap seats_of t.meter_view; pair = t.map };
  }

  module _ (slots ended : List (Holding ReaderView)) (lines after : List (LineView E WriterView)) (kept : SlotsKeep slots ended) (stay : LinesKeep lines after) where
    -- what was, and that it was kept
    slot_was : (slot : ℕ) (h : Holding ReaderView) → slice_get ended slot ≡ Some h → (was : Holding ReaderView) × (slice_get slots slot ≡ Some was) × SlotKeeps was h
    slot_was slot h at = let was = beside slots ended h slot kept.count at in (was.0, was.1, kept.each slot was.0 h was.1 at)

    line_was : (place : ℕ) (line : LineView E WriterView) → slice_get after place ≡ Some line → (was : LineView E WriterView) × (slice_get lines place ≡ Some was) × LineKeeps was line
    line_was place line at = let was = beside lines after line place stay.count at in (was.0, was.1, stay.each place was.0 line was.1 at)

    pub host_kept : AreOfHost slots lines → AreOfHost ended after
    host_kept of = record {
      ports = λ slot place h line at_slot at_line.
          let s = slot_was slot h at_slot in
          let l = line_was place line at_line in
          s.2.stays.table ∙ (of.ports slot place s.0 l.0 s.1 l.1 ∙ sym l.2.ports);
      words = λ slot place h line at_slot at_line.
          let s = slot_was slot h at_slot in
          let l = line_was place line at_line in
          s.2.stays.meter ∙ (of.words slot place s.0 l.0 s.1 l.1 ∙ sym l.2.words);
      routes = λ slot place h lane line at_slot at_lane at_line.
          let s = slot_was slot h at_slot in
          let l = line_was place line at_line in
          let r = lane_was s.0.routes h.routes place lane s.2.stays.routes at_lane in
          let was = of.routes slot place s.0 r.0 l.0 s.1 r.1 l.1 in (
            ap (λ (f : Fixed TableId). f.peer) (sym r.2) ∙ (was.0 ∙ sym l.2.peer),
            ap (λ (f : Fixed TableId). f.mail) (sym r.2) ∙ (was.1 ∙ sym l.2.mail),
            ap (λ (f : Fixed TableId). f.pair) (sym r.2) ∙ (was.2 ∙ sym l.2.pair),
          );
      boxes = λ slot place h line box at_slot at_line at_box.
          let s = slot_was slot h at_slot in
          let l = line_was place line at_line in
          let b = box_was l.0.boxes line.boxes s.0.words.slot box l.2.boxes (subst (λ (k : ℕ). IsBoxOf line.boxes k box) s.2.stays.slot at_box) in
          b.2.0 ∙ (of.boxes slot place s.0 l.0 b.0 s.1 l.1 b.1 ∙ sym s.2.stays.mail);
    }

    peers_same : map (λ (line : LineView E WriterView). line.channel.conn.peer) after ≡ map (λ (line : LineView E WriterView). line.channel.conn.peer) lines
    peers_same =
        let peer : LineView E WriterView → ℕ = λ (line : LineView E WriterView). line.channel.conn.peer in
        same_lists (map peer after) (map peer lines)
        (length-map after peer ∙ (stay.count ∙ sym (length-map lines peer)))
        (λ k d small.
        let count = length-map after peer in
        let line = there_is after k (omega (arith, count, small)) in
        let was = line_was k line.0 line.1 in
        get_or_from_slice_get (map peer after) k (peer line.0) d (slice_get-map peer after k ∙ ap (option_map peer) line.1)
        ∙ (was.2.peer ∙ sym (get_or_from_slice_get (map peer lines) k (peer was.0) d (slice_get-map peer lines k ∙ ap (option_map peer) was.1))))

    pub passes_kept : AreAllPasses slots lines → AreAllPasses ended after
    passes_kept all = record {
      places = λ slot h at. let s = slot_was slot h at in s.2.stays.slot ∙ all.places slot s.0 s.1;
      peers = subst Ascend (sym peers_same) all.peers;
      lanes = λ slot h at.
          let s = slot_was slot h at in
          routes_count s.0.routes h.routes s.2.stays.routes ∙ (all.lanes slot s.0 s.1 ∙ sym stay.count);
      held = λ place line at.
          let l = line_was place line at in
          l.2.boxes.count ∙ (all.held place l.0 l.1 ∙ sym kept.count);
      orders = λ slot place h lane at_slot at_lane.
          let s = slot_was slot h at_slot in
          let r = lane_was s.0.routes h.routes place lane s.2.stays.routes at_lane in
          let was = all.orders slot place s.0 r.0 s.1 r.1 in (
            ap (λ (f : Fixed TableId). f.number) (sym r.2) ∙ was.0,
            ap (λ (f : Fixed TableId). f.splits) (sym r.2) ∙ (was.1 ∙ ap (λ (n : ℕ). splits_at n slot) (sym kept.count)),
          );
      boxes = λ slot place line box at_line at_box.
          let l = line_was place line at_line in
          let b = box_was l.0.boxes line.boxes slot box l.2.boxes at_box in
          let was = all.boxes slot place l.0 b.0 l.1 b.1 in (
            b.2.1 ∙ was.0,
            b.2.2 ∙ (was.1 ∙ ap (λ (n : ℕ). splits_at n place) (sym stay.count)),
          );
      seats =
          let one = total_alike (λ (h : Holding ReaderView). seats_of h.words.seat.view) slots ended kept.count (λ slot h after_it stood stands. (kept.each slot h after_it stood stands).stays.seats) in
          let two = total_alike (λ (line : LineView E WriterView). seats_of line.words.view) lines after stay.count (λ place line after_it stood stands. (stay.each place line after_it stood stands).seats) in
          let was = all.seats in
          omega (arith, one, two, was);
      no_order_joined = λ place line at. let l = line_was place line at in l.2.joined ∙ all.no_order_joined place l.0 l.1;
      no_box_joined = λ slot h at. let s = slot_was slot h at in s.2.joined ∙ all.no_box_joined slot s.0 s.1;
    }
