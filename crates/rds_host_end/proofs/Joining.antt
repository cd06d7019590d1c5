-- The putters of a host's queues are all that these have, and what their getters show of them is what a host shows.
use Rattle.std.proofs.Common.{◌≡◌, ℕ, List, [], ◌∷◌, All, Some, length, map, get_or, slice_get, option_map, refl, sym, ap, subst, ◌∙◌, arith}
use Rattle.std.proofs.lemmas.List.{length-map}
use Rattle.std.proofs.lemmas.Option.{slice_get_within, slice_get-get_or, slice_get-map, get_or_from_slice_get}
use Rattle.rds_model.specs.declared.order.Datagram.{Datagram}
use Rattle.rds_model.specs.declared.order.Order.{Order}
use Rattle.rds_model.specs.Deliveries.{delivered_datagrams}
use Rattle.rds_model.specs.Honest.{Begins}
use Rattle.rds_mail.specs.Merging.{by_key}
use Rattle.rds_mail.specs.Numbers.{bare_items}
use Rattle.rds_mail.specs.Passes.{Getter, Putter}
use Rattle.rds_fmap.specs.Readers.{ReaderView, WriterView}
use Rattle.rds_socket_parts.specs.Lanes.{IsLaneAt, IsOf, Lane}
use Rattle.rds_host_end.specs.Joins.{IsFrom, sender_in, slot_of_order}
use Rattle.rds_line_parts.specs.Boxes.{IsBoxOf}
use Rattle.rds_socket.specs.Holding.{Holding, IsEnded}
use Rattle.rds_line.specs.Keeps.{KeepsLine, uncut}
use Rattle.rds_line.specs.Line.{LineView, line_past}
use Rattle.rds_host.specs.Passes.{AreAllPasses}
use Rattle.rds_host.specs.Telling.{IsTold}
use Rattle.rds_host.specs.Ties.{AreOfHost}
use Rattle.rds_host_end.proofs.Places.{all_at, mapped_at, there_is}
use Rattle.rds_host_end.specs.Columns.{AtEachPlace, column, passes_of}
use Rattle.rds_host_end.specs.Joined.{AreJoined, AreLooksOfJournals, IsPeer, orders_of, peer_of}
use Rattle.rds_host_end.specs.Shown.{ArePuttersOf, AreReadersOf, HasLookedAt, HaveLookedAt, ShowsAllPuts}
use Rattle.rds_host_end.proofs.Columns.{AreFull, column_count, column_row, each_first, each_paired, row_column}
use Rattle.rds_host_end.proofs.Keys.{delivered_from, key_from, key_none, key_own, key_uncut, one_place}
use Rattle.rds_host_end.proofs.Marks.{AreApart, AreInOrder, all_got_there, all_there, begins_there, putter_of}

all_from : {X : Type 0} (P : X → Type 0) (xs : List X) → ((i : ℕ) (x : X) → slice_get xs i ≡ Some x → P x) → All P xs
all_from P xs each k d small = each k (get_or xs k d) (slice_get-get_or xs k d small)

-- the putters of the slots, and those of the lines
abbrev pub lane_rows : List (Holding ReaderView) → List (List (Putter Order))
lane_rows slots = map (λ h. passes_of h.routes) slots

abbrev pub route_rows : List (Holding ReaderView) → List (List (Lane ReaderView))
route_rows slots = map (λ h. h.routes) slots

-- the routes of the slots give their putters
rows_passes : (slots : List (Holding ReaderView)) → map passes_of (route_rows slots) ≡ lane_rows slots
rows_passes [] = refl
rows_passes (h ∷ slots) = ap (λ (l : List (List (Putter Order))). passes_of h.routes ∷ l) (rows_passes slots)

module _ {E : Type 0} where
  abbrev pub box_rows : List (LineView E WriterView) → List (List (Putter Datagram))
  box_rows lines = map (λ line. line.boxes) lines

  -- the queue of a line's orders, and the writer of the peer's map
  abbrev pub asked_of : LineView E WriterView → Getter Order × WriterView
  asked_of line = (line.orders, line.map)

  -- what suits the queues and the putters suits them beside the maps and the readers
  module _ (P : Getter Order → List (Putter Order) → Type 0) (slots : List (Holding ReaderView)) (lines : List (LineView E WriterView)) where
    pub beside_maps : AtEachPlace P (map (λ line. line.orders) lines) (lane_rows slots) →
        AtEachPlace (λ (two : Getter Order × WriterView) (lanes : List (Lane ReaderView)). P two.0 (passes_of lanes)) (map asked_of lines) (route_rows slots)
    beside_maps all =
        each_paired (λ (l : LineView E WriterView). l.orders) (λ (l : LineView E WriterView). l.map) (λ (lane : Lane ReaderView). lane.pass) P lines (route_rows slots)
        (subst (λ (rows : List (List (Putter Order))). AtEachPlace P (map (λ (l : LineView E WriterView). l.orders) lines) rows) (sym (rows_passes slots)) all)

    pub without_maps : AtEachPlace (λ (two : Getter Order × WriterView) (lanes : List (Lane ReaderView)). P two.0 (passes_of lanes)) (map asked_of lines) (route_rows slots) →
        AtEachPlace P (map (λ line. line.orders) lines) (lane_rows slots)
    without_maps all =
        subst (λ (rows : List (List (Putter Order))). AtEachPlace P (map (λ (l : LineView E WriterView). l.orders) lines) rows) (rows_passes slots)
        (each_first (λ (l : LineView E WriterView). l.orders) (λ (l : LineView E WriterView). l.map) (λ (lane : Lane ReaderView). lane.pass) P lines (route_rows slots) all)

  module _ (slots : List (Holding ReaderView)) (lines : List (LineView E WriterView)) (all : AreAllPasses slots lines) where
    lanes_full : (place : ℕ) (line : LineView E WriterView) → slice_get lines place ≡ Some line → AreFull place (lane_rows slots)
    lanes_full place line at_line i row at =
        let h = mapped_at (λ (x : Holding ReaderView). passes_of x.routes) slots row i at in
        let small = slice_get_within lines place line at_line in
        let count = all.lanes i h.0 h.1 in
        let size : length row ≡ length h.0.routes = ap length (sym h.2) ∙ length-map h.0.routes (λ (lane : Lane ReaderView). lane.pass) in
        omega arith

    -- each putter at a line's queue is of the slot at its place
    lane_there : (place : ℕ) (line : LineView E WriterView) → slice_get lines place ≡ Some line → (i : ℕ) (p : Putter Order) → slice_get (column place (lane_rows slots)) i ≡ Some p →
        (h : Holding ReaderView) × (lane : Lane ReaderView) × (slice_get slots i ≡ Some h) × IsLaneAt h.routes place lane × (lane.pass ≡ p)
    lane_there place line at_line i p at =
        let row = column_row place (lane_rows slots) (lanes_full place line at_line) i p at in
        let h = mapped_at (λ (x : Holding ReaderView). passes_of x.routes) slots row.0 i row.1 in
        let lane = mapped_at (λ (x : Lane ReaderView). x.pass) h.0.routes p place (ap (λ (l : List (Putter Order)). slice_get l place) h.2 ∙ row.2) in
        (h.0, lane.0, h.1, lane.1, lane.2)

    there_lane : (place : ℕ) (line : LineView E WriterView) → slice_get lines place ≡ Some line → (i : ℕ) (h : Holding ReaderView) (lane : Lane ReaderView) →
        slice_get slots i ≡ Some h → IsLaneAt h.routes place lane → slice_get (column place (lane_rows slots)) i ≡ Some lane.pass
    there_lane place line at_line i h lane at_slot at_lane =
        row_column place (lane_rows slots) (lanes_full place line at_line) i (passes_of h.routes) lane.pass
        (slice_get-map (λ (x : Holding ReaderView). passes_of x.routes) slots i ∙ ap (option_map (λ (x : Holding ReaderView). passes_of x.routes)) at_slot)
        (slice_get-map (λ (x : Lane ReaderView). x.pass) h.routes place ∙ ap (option_map (λ (x : Lane ReaderView). x.pass)) at_lane)

    routes_full : (place : ℕ) (line : LineView E WriterView) → slice_get lines place ≡ Some line → AreFull place (route_rows slots)
    routes_full place line at_line i row at =
        let h = mapped_at (λ (x : Holding ReaderView). x.routes) slots row i at in
        let small = slice_get_within lines place line at_line in
        let count = all.lanes i h.0 h.1 in
        let size : length row ≡ length h.0.routes = ap length (sym h.2) in
        omega arith

    orders_in_order : (place : ℕ) (line : LineView E WriterView) → slice_get lines place ≡ Some line → AreInOrder (length slots) (column place (lane_rows slots))
    orders_in_order place line at_line = record {
      size = column_count place (lane_rows slots) (lanes_full place line at_line) ∙ length-map slots (λ (x : Holding ReaderView). passes_of x.routes);
      each = λ i p at.
          let h = lane_there place line at_line i p at in
          let is = all.orders i place h.0 h.1 h.2 h.3 in
          (ap (λ (q : Putter Order). q.number) (sym h.4) ∙ is.0, ap (λ (q : Putter Order). q.splits) (sym h.4) ∙ is.1);
    }

    boxes_full : (slot : ℕ) (h : Holding ReaderView) → slice_get slots slot ≡ Some h → AreFull slot (box_rows lines)
    boxes_full slot h at_slot i row at =
        let line = mapped_at (λ (x : LineView E WriterView). x.boxes) lines row i at in
        let small = slice_get_within slots slot h at_slot in
        let count = all.held i line.0 line.1 in
        let size : length row ≡ length line.0.boxes = ap length (sym line.2) in
        omega arith

    -- each putter at a slot's mailbox is of the line at its place
    box_there : (slot : ℕ) (h : Holding ReaderView) → slice_get slots slot ≡ Some h → (i : ℕ) (p : Putter Datagram) → slice_get (column slot (box_rows lines)) i ≡ Some p →
        (line : LineView E WriterView) × (slice_get lines i ≡ Some line) × IsBoxOf line.boxes slot p
    box_there slot h at_slot i p at =
        let row = column_row slot (box_rows lines) (boxes_full slot h at_slot) i p at in
        let line = mapped_at (λ (x : LineView E WriterView). x.boxes) lines row.0 i row.1 in
        (line.0, line.1, ap (λ (l : List (Putter Datagram)). slice_get l slot) line.2 ∙ row.2)

    there_box : (slot : ℕ) (h : Holding ReaderView) → slice_get slots slot ≡ Some h → (i : ℕ) (line : LineView E WriterView) (box : Putter Datagram) →
        slice_get lines i ≡ Some line → IsBoxOf line.boxes slot box → slice_get (column slot (box_rows lines)) i ≡ Some box
    there_box slot h at_slot i line box at_line at_box =
        row_column slot (box_rows lines) (boxes_full slot h at_slot) i line.boxes box
        (slice_get-map (λ (x : LineView E WriterView). x.boxes) lines i ∙ ap (option_map (λ (x : LineView E WriterView). x.boxes)) at_line) at_box

    boxes_in_order : (slot : ℕ) (h : Holding ReaderView) → slice_get slots slot ≡ Some h → AreInOrder (length lines) (column slot (box_rows lines))
    boxes_in_order slot h at_slot = record {
      size = column_count slot (box_rows lines) (boxes_full slot h at_slot) ∙ length-map lines (λ (x : LineView E WriterView). x.boxes);
      each = λ i p at. let line = box_there slot h at_slot i p at in all.boxes slot i line.0 p line.1 line.2;
    }

    module _ (host : AreOfHost slots lines) where
      -- each line's queue has the putters of its column
      pub orders_fit : AtEachPlace ArePuttersOf (map (λ line. line.orders) lines) (lane_rows slots)
      orders_fit place g at =
          let line = mapped_at (λ (x : LineView E WriterView). x.orders) lines g place at in
          let puts = column place (lane_rows slots) in
          let order = orders_in_order place line.0 line.1 in
          subst (λ (x : Getter Order). ArePuttersOf x puts) line.2
          (record {
            mails = all_from (λ (p : Putter Order). p.mail ≡ line.0.orders.mail) puts (λ i p at'.
                let h = lane_there place line.0 line.1 i p at' in
                ap (λ (q : Putter Order). q.mail) (sym h.4) ∙ (host.routes i place h.0 h.1 line.0 h.2 h.3 line.1).1);
            none = all.no_order_joined place line.0 line.1;
            all = λ enough. let size = order.size in all_there (length slots) puts order (omega arith);
          })

      -- and each slot's mailbox those of its column
      pub boxes_fit : AtEachPlace ArePuttersOf (map (λ h. h.inbox.get) slots) (box_rows lines)
      boxes_fit slot g at =
          let h = mapped_at (λ (x : Holding ReaderView). x.inbox.get) slots g slot at in
          let puts = column slot (box_rows lines) in
          let order = boxes_in_order slot h.0 h.1 in
          let number = all.places slot h.0 h.1 in
          subst (λ (x : Getter Datagram). ArePuttersOf x puts) h.2
          (record {
            mails = all_from (λ (p : Putter Datagram). p.mail ≡ h.0.inbox.get.mail) puts (λ i p at'.
                let line = box_there slot h.0 h.1 i p at' in
                host.boxes slot i h.0 line.0 p h.1 line.1 (subst (λ (n : ℕ). IsBoxOf line.0.boxes n p) (sym number) line.2));
            none = all.no_box_joined slot h.0 h.1;
            all = λ enough. let size = order.size in all_there (length lines) puts order (omega arith);
          })

      -- each line's map has the readers of its column
      pub readers_fit : AtEachPlace (λ (two : Getter Order × WriterView) (lanes : List (Lane ReaderView)). AreReadersOf two.1 lanes) (map asked_of lines) (route_rows slots)
      readers_fit place two at =
          let line = mapped_at asked_of lines two place at in
          all_from (λ (lane : Lane ReaderView). lane.reader.pair ≡ two.1.pair) (column place (route_rows slots)) (λ i lane at'.
          let row = column_row place (route_rows slots) (routes_full place line.0 line.1) i lane at' in
          let h = mapped_at (λ (x : Holding ReaderView). x.routes) slots row.0 i row.1 in
          (host.routes i place h.0 lane line.0 h.1 (ap (λ (l : List (Lane ReaderView)). slice_get l place) h.2 ∙ row.2) line.1).2
          ∙ ap (λ (p : Getter Order × WriterView). p.1.pair) line.2)

    -- each look found what the journals' maps have
    pub looked : All (KeepsLine (λ w. w.published)) lines →
        AtEachPlace (λ (two : Getter Order × WriterView) (lanes : List (Lane ReaderView)). HaveLookedAt two.1.published lanes) (map asked_of lines) (route_rows slots) →
        AreLooksOfJournals slots lines
    looked kept all_looked slot place h lane line at_slot at_lane at_line =
        let keeps = all_at (KeepsLine (λ w. w.published)) lines line place kept at_line in
        let looks = all_looked place (asked_of line) (slice_get-map asked_of lines place ∙ ap (option_map asked_of) at_line) in
        subst (λ (published : List (List ℕ)). HasLookedAt published lane.reader) keeps.maps
        (all_at (λ (x : Lane ReaderView). HasLookedAt line.map.published x.reader) (column place (route_rows slots)) lane slot looks
        (row_column place (route_rows slots) (routes_full place line at_line) slot h.routes lane
        (slice_get-map (λ (x : Holding ReaderView). x.routes) slots slot ∙ ap (option_map (λ (x : Holding ReaderView). x.routes)) at_slot) at_lane))

    module _ (ended : All IsEnded slots) (kept : All (KeepsLine (λ w. w.published)) lines) where
      own_orders : (slot place : ℕ) (h : Holding ReaderView) (lane : Lane ReaderView) → slice_get slots slot ≡ Some h → IsLaneAt h.routes place lane → All (IsOf slot) lane.pass.put
      own_orders slot place h lane at_slot at_lane =
          let number = all.places slot h at_slot in
          let put = (all_at IsEnded slots h slot ended at_slot).held.orders in
          subst (λ (n : ℕ). All (IsOf n) lane.pass.put) number
          (all_at (λ (x : Lane ReaderView). All (IsOf h.words.slot) x.pass.put) h.routes lane place put at_lane)

      orders_apart : (place : ℕ) (line : LineView E WriterView) → slice_get lines place ≡ Some line → AreApart IsOf (λ i. i) (length slots) (column place (lane_rows slots))
      orders_apart place line at_line = record {
        own = λ i p at.
            let h = lane_there place line at_line i p at in
            subst (λ (q : Putter Order). All (IsOf i) q.put) h.4 (own_orders i place h.0 h.1 h.2 h.3);
        apart = λ i j small small' same. same;
      }

      -- the orders of a slot that a line took are those of its journal
      orders_taken : (slot : ℕ) (place : ℕ) (line : LineView E WriterView) → slice_get lines place ≡ Some line → by_key slot_of_order slot (bare_items line.orders.got) ≡ orders_of slot (line_past line)
      orders_taken slot place line at_line =
          let keeps = all_at (KeepsLine (λ w. w.published)) lines line place kept at_line in
          sym (key_uncut slot (bare_items line.orders.got)) ∙ ap (by_key slot_of_order slot) keeps.taken

      abbrev host_at : ℕ → ℕ
      host_at i = get_or (map peer_of lines) i 0

      peer_there : (i : ℕ) (line : LineView E WriterView) → slice_get lines i ≡ Some line → host_at i ≡ peer_of line
      peer_there i line at_line = get_or_from_slice_get (map peer_of lines) i (peer_of line) 0 (slice_get-map peer_of lines i ∙ ap (option_map peer_of) at_line)

      put_there : (slot i : ℕ) (line : LineView E WriterView) (box : Putter Datagram) → slice_get lines i ≡ Some line → IsBoxOf line.boxes slot box →
          box.put ≡ delivered_datagrams (peer_of line) slot (line_past line)
      put_there slot i line box at_line at_box = (all_at (KeepsLine (λ w. w.published)) lines line i kept at_line).put slot box at_box

      own_boxes : (slot : ℕ) (h : Holding ReaderView) → slice_get slots slot ≡ Some h → (i : ℕ) (p : Putter Datagram) → slice_get (column slot (box_rows lines)) i ≡ Some p → All (IsFrom (host_at i)) p.put
      own_boxes slot h at_slot i p at =
          let line = box_there slot h at_slot i p at in
          subst (λ (n : ℕ). All (IsFrom n) p.put) (sym (peer_there i line.0 line.1))
          (subst (λ (l : List Datagram). All (IsFrom (peer_of line.0)) l) (sym (put_there slot i line.0 p line.1 line.2)) (delivered_from (peer_of line.0) slot (line_past line.0)))

      boxes_apart : (slot : ℕ) (h : Holding ReaderView) → slice_get slots slot ≡ Some h → AreApart IsFrom host_at (length lines) (column slot (box_rows lines))
      boxes_apart slot h at_slot = record {
        own = own_boxes slot h at_slot;
        apart = λ i j small small' same.
            let count = length-map lines peer_of in
            one_place (map peer_of lines) all.peers i j (host_at i) (slice_get-get_or (map peer_of lines) i 0 (omega arith))
            (slice_get-get_or (map peer_of lines) j 0 (omega arith) ∙ ap Some (sym same));
      }

      module _ (orders_shown : AtEachPlace (ShowsAllPuts slot_of_order IsOf) (map (λ line. line.orders) lines) (lane_rows slots))
          (boxes_shown : AtEachPlace (ShowsAllPuts sender_in IsFrom) (map (λ h. h.inbox.get) slots) (box_rows lines)) where
        shown_orders : (place : ℕ) (line : LineView E WriterView) → slice_get lines place ≡ Some line → ShowsAllPuts slot_of_order IsOf line.orders (column place (lane_rows slots))
        shown_orders place line at_line =
            orders_shown place line.orders (slice_get-map (λ (x : LineView E WriterView). x.orders) lines place ∙ ap (option_map (λ (x : LineView E WriterView). x.orders)) at_line)

        shown_boxes : (slot : ℕ) (h : Holding ReaderView) → slice_get slots slot ≡ Some h → ShowsAllPuts sender_in IsFrom h.inbox.get (column slot (box_rows lines))
        shown_boxes slot h at_slot =
            boxes_shown slot h.inbox.get (slice_get-map (λ (x : Holding ReaderView). x.inbox.get) slots slot ∙ ap (option_map (λ (x : Holding ReaderView). x.inbox.get)) at_slot)

        -- a box's datagrams are all of the peer of its line
        box_keys : (slot place : ℕ) (line : LineView E WriterView) (box : Putter Datagram) → slice_get lines place ≡ Some line → IsBoxOf line.boxes slot box →
            by_key sender_in (peer_of line) box.put ≡ delivered_datagrams (peer_of line) slot (line_past line)
        box_keys slot place line box at_line at_box =
            let put = put_there slot place line box at_line at_box in
            ap (by_key sender_in (peer_of line)) put
            ∙ key_from (peer_of line) (delivered_datagrams (peer_of line) slot (line_past line)) (delivered_from (peer_of line) slot (line_past line))

        box_of : (slot place : ℕ) (h : Holding ReaderView) (line : LineView E WriterView) → slice_get slots slot ≡ Some h → slice_get lines place ≡ Some line →
            (box : Putter Datagram) × IsBoxOf line.boxes slot box
        box_of slot place h line at_slot at_line =
            let small = slice_get_within slots slot h at_slot in
            let count = all.held place line at_line in
            there_is line.boxes slot (omega arith)

        pub joined : AreJoined slots lines
        joined = record {
          begin_taken = λ slot place h lane line at_slot at_lane at_line.
              let puts = column place (lane_rows slots) in
              let begin = begins_there IsOf (λ i. i) slot_of_order line.orders (length slots) puts (orders_in_order place line at_line) (orders_apart place line at_line) (shown_orders place line at_line)
              slot lane.pass (there_lane place line at_line slot h lane at_slot at_lane) in
              subst (λ (l : List Order). Begins l (uncut lane.pass.put)) (orders_taken slot place line at_line)
              (subst (λ (l : List Order). Begins (by_key slot_of_order slot (bare_items line.orders.got)) l) (key_own slot lane.pass.put (own_orders slot place h lane at_slot at_lane)) begin);
          all_taken = λ slot place h lane line at_slot at_lane at_line got told.
              let puts = column place (lane_rows slots) in
              let same = all_got_there IsOf (λ i. i) slot_of_order line.orders (length slots) puts (orders_in_order place line at_line) (orders_apart place line at_line) (shown_orders place line at_line)
              got.told (λ j q at'.
              let x = lane_there place line at_line j q at' in
              subst (λ (r : Putter Order). IsTold line.orders.told r) x.4 (told j x.0 x.1 x.2 x.3))
              slot lane.pass (there_lane place line at_line slot h lane at_slot at_lane) in
              sym (orders_taken slot place line at_line) ∙ (same ∙ key_own slot lane.pass.put (own_orders slot place h lane at_slot at_lane));
          begin_got = λ slot place h line at_slot at_line.
              let puts = column slot (box_rows lines) in
              let box = box_of slot place h line at_slot at_line in
              let begin = begins_there IsFrom host_at sender_in h.inbox.get (length lines) puts (boxes_in_order slot h at_slot) (boxes_apart slot h at_slot) (shown_boxes slot h at_slot)
              place box.0 (there_box slot h at_slot place line box.0 at_line box.1) in
              subst (λ (l : List Datagram). Begins (by_key sender_in (peer_of line) (bare_items h.inbox.get.got)) l) (box_keys slot place line box.0 at_line box.1)
              (subst (λ (n : ℕ). Begins (by_key sender_in n (bare_items h.inbox.get.got)) (by_key sender_in n box.0.put)) (peer_there place line at_line) begin);
          all_got = λ slot place h line at_slot at_line got told.
              let puts = column slot (box_rows lines) in
              let box = box_of slot place h line at_slot at_line in
              let number = all.places slot h at_slot in
              let same = all_got_there IsFrom host_at sender_in h.inbox.get (length lines) puts (boxes_in_order slot h at_slot) (boxes_apart slot h at_slot) (shown_boxes slot h at_slot)
              got.told (λ j q at'.
              let x = box_there slot h at_slot j q at' in
              told j x.0 q x.1 (subst (λ (n : ℕ). IsBoxOf x.0.boxes n q) (sym number) x.2))
              place box.0 (there_box slot h at_slot place line box.0 at_line box.1) in
              subst (λ (n : ℕ). by_key sender_in n (bare_items h.inbox.get.got) ≡ by_key sender_in n box.0.put) (peer_there place line at_line) same
              ∙ box_keys slot place line box.0 at_line box.1;
          known_senders = λ enough slot h at_slot.
              let puts = column slot (box_rows lines) in
              let size = (boxes_in_order slot h at_slot).size in
              let merged = (shown_boxes slot h at_slot).merged (omega arith) in
              all_from (λ (item : Datagram). IsPeer lines item.from) (bare_items h.inbox.get.got) (λ k item at.
              let x = putter_of (λ (i : ℕ) (d : Datagram). d.from ≡ host_at i) h.inbox.get.got puts merged (own_boxes slot h at_slot) k item at in
              let line = there_is lines x.0 (omega arith) in
              (x.0, line.0, line.1, sym (peer_there x.0 line.0 line.1) ∙ sym x.2));
          known_slots = λ enough slot place line at_line few.
              let puts = column place (lane_rows slots) in
              let size = (orders_in_order place line at_line).size in
              let merged = (shown_orders place line at_line).merged (omega (arith, enough, size)) in
              sym (orders_taken slot place line at_line)
              ∙ key_none (length puts) slot (bare_items line.orders.got) (omega (arith, few, size))
              (putter_of IsOf line.orders.got puts merged (orders_apart place line at_line).own);
        }
