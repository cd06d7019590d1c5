-- The lines of columns that are made one after another.
use Rattle.std.proofs.Common.{◌≡◌, ℕ, ◌+◌, ◌<◌, List, [], ◌∷◌, ◌++◌, All, Some, length, map, slice_get, option_map, refl, sym, ap, subst, ⊎_elim, ◌∙◌, arith}
use Rattle.std.proofs.lemmas.List.{length-map, length_push, same_lists}
use Rattle.std.proofs.lemmas.Option.{same_Some, slice_get_within, slice_get-map, get_or_from_slice_get}
use Rattle.rds_seats.specs.Views.{Table}
use Rattle.rds_model.specs.declared.order.Datagram.{Datagram}
use Rattle.rds_model.specs.declared.order.Order.{Order}
use Rattle.rds_mail.specs.Passes.{Getter, Putter, QueueId}
use Rattle.rds_fmap.specs.Readers.{ReaderView, WriterView}
use Rattle.rds_socket_parts.specs.Lanes.{Ascend, Lane}
use Rattle.rds_line_parts.specs.Boxes.{IsBoxOf}
use Rattle.rds_socket.specs.Holding.{Holding}
use Rattle.rds_line.specs.Line.{LineView}
use Rattle.rds_model.specs.declared.entry.TheConstants.{MAX_SLOTS}
use Rattle.rds_line_channel.specs.Channel.{ChannelView, new_channel}
use Rattle.rds_host.specs.Lines.{AreNewLines}
use Rattle.rds_host.specs.Passes.{line_seats, slot_seats, AreAllPasses, putter_number, splits_at}
use Rattle.rds_host.specs.Slots.{AreInPlace}
use Rattle.rds_host.specs.Ties.{Way, ColumnView, IsSlotOf, IsLineOf, AreLinesOf, AreOfHost, AreColumnsFilled, new_putter, inbox_of, ways_of, peers_to, lane_way}
use Rattle.rds_host.proofs.Pushing.{pushed_at, mapped_at, all_at, there_is, count_of}

module _ {E : Type 0} where
  -- one more line
  pub lines_push : (me limit : ℕ) (table meter : Table) (columns : List ColumnView) (streams : List (List (ℕ × E))) (lines : List (LineView E WriterView))
      (column : ColumnView) (list : List (ℕ × E)) (line : LineView E WriterView) → AreLinesOf me limit table meter columns streams lines
      → slice_get streams (length columns) ≡ Some list → IsLineOf me limit table meter column list line → AreLinesOf me limit table meter (columns ++ column ∷ []) streams (lines ++ line ∷ [])
  lines_push me limit table meter columns streams lines column list line all next last = record {
    count = let a = length_push lines line in let b = length_push columns column in let e = all.count in omega arith;
    each = λ place col streams_of made at_column at_streams at_line.
        let e = all.count in
        ⊎_elim
        (λ (there : slice_get columns place ≡ Some col).
        let small = slice_get_within columns place col there in
        ⊎_elim
        (λ (held : slice_get lines place ≡ Some made). all.each place col streams_of made there at_streams held)
        (λ (new : (place ≡ length lines) × (line ≡ made)). absurd (let at = new.0 in omega arith))
        (pushed_at lines line made place at_line))
        (λ (new : (place ≡ length columns) × (column ≡ col)).
        ⊎_elim
        (λ (held : slice_get lines place ≡ Some made). absurd (let small = slice_get_within lines place made held in let at = new.0 in omega arith))
        (λ (newer : (place ≡ length lines) × (line ≡ made)).
        let same : list ≡ streams_of = same_Some list streams_of (sym next ∙ (ap (slice_get streams) (sym new.0) ∙ at_streams)) in
        subst (λ (c : ColumnView). IsLineOf me limit table meter c streams_of made) new.1
        (subst (λ (s : List (ℕ × E)). IsLineOf me limit table meter column s made) same
        (subst (λ (l : LineView E WriterView). IsLineOf me limit table meter column list l) newer.1 last)))
        (pushed_at lines line made place at_line))
        (pushed_at columns column col place at_column);
  }

  -- where there are more streams than columns
  pub lines_among : (me limit : ℕ) (table meter : Table) (columns : List ColumnView) (streams : List (List (ℕ × E))) (more : List (ℕ × E)) (lines : List (LineView E WriterView)) →
      length streams ≡ length columns → AreLinesOf me limit table meter columns streams lines → AreLinesOf me limit table meter columns (streams ++ more ∷ []) lines
  lines_among me limit table meter columns streams more lines size all = record {
    count = all.count;
    each = λ place column list line at_column at_streams at_line.
        ⊎_elim
        (λ (there : slice_get streams place ≡ Some list). all.each place column list line at_column there at_line)
        (λ (new : (place ≡ length streams) × (more ≡ list)). absurd (let small = slice_get_within columns place column at_column in let at = new.0 in omega arith))
        (pushed_at streams more list place at_streams);
  }

  -- the same line at tables that are known under other names
  pub line_at : (me limit : ℕ) (table meter as_table as_meter : Table) (column : ColumnView) (list : List (ℕ × E)) (line : LineView E WriterView) → table ≡ as_table → meter ≡ as_meter
      → IsLineOf me limit table meter column list line → IsLineOf me limit as_table as_meter column list line
  line_at me limit table meter as_table as_meter column list line first second l = record {
    channel = l.channel;
    mail = l.mail;
    joined = l.joined;
    pair = l.pair;
    boxes = l.boxes;
    ports = l.ports ∙ first;
    words = l.words ∙ second;
    looks = l.looks;
  }

  pub no_lines : (me limit : ℕ) (table meter : Table) (streams : List (List (ℕ × E))) → AreLinesOf me limit table meter [] streams []
  no_lines me limit table meter streams = record {
    count = refl;
    each = λ place column list line at_column at_streams at_line. absurd (let small = slice_get_within [] place column at_column in omega arith);
  }

  -- the lines of all columns are a host's new lines
  pub new_lines : (me limit : ℕ) (table meter : Table) (columns : List ColumnView) (streams : List (List (ℕ × E))) (lines : List (LineView E WriterView)) (peers : List ℕ)
      → AreLinesOf me limit table meter columns streams lines → peers_to (ways_of columns) ≡ peers → AreNewLines me limit peers streams lines
  new_lines me limit table meter columns streams lines peers all is = record {
    count = all.count ∙ (count_of columns ∙ ap length is);
    each = λ place peer list line at_peer at_streams at_line.
        let way = mapped_at (λ (w : Way). w.peer) (ways_of columns) peer place (ap (λ (l : List ℕ). slice_get l place) is ∙ at_peer) in
        let column = mapped_at (λ (c : ColumnView). c.way) columns way.0 place way.1 in
        let to : column.0.way.peer ≡ peer = ap (λ (w : Way). w.peer) column.2 ∙ way.2 in
        let is = all.each place column.0 list line column.1 at_streams at_line in
        (is.channel ∙ ap (λ (p : ℕ). new_channel me p MAX_SLOTS limit list) to, is.looks);
  }

  module _ (me limit : ℕ) (table meter : Table) (columns : List ColumnView) (streams : List (List (ℕ × E))) (lines : List (LineView E WriterView)) (slots : ℕ) (vacants : List (Holding ReaderView))
      (all : AreLinesOf me limit table meter columns streams lines) (count : length streams ≡ length columns) (are : All (IsSlotOf slots (ways_of columns) table meter) vacants) (in_place : AreInPlace vacants)
      (filled : AreColumnsFilled slots (map inbox_of vacants) columns) where
    -- the column of a line
    column_of : (place : ℕ) (line : LineView E WriterView) → slice_get lines place ≡ Some line
        → (column : ColumnView) × (slice_get columns place ≡ Some column) × ((list : List (ℕ × E)) × IsLineOf me limit table meter column list line)
    column_of place line at =
        let size = all.count in
        let small = slice_get_within lines place line at in
        let column = there_is columns place (omega arith) in
        let list = there_is streams place (omega arith) in
        (column.0, column.1, (list.0, all.each place column.0 list.0 line column.1 list.1 at))

    slot_is : (slot : ℕ) (h : Holding ReaderView) → slice_get vacants slot ≡ Some h → IsSlotOf slots (ways_of columns) table meter h
    slot_is slot h at = all_at (IsSlotOf slots (ways_of columns) table meter) vacants h slot are at

    boxes_are : (place : ℕ) (line : LineView E WriterView) → slice_get lines place ≡ Some line → line.boxes ≡ map (λ mail. new_putter mail (length columns) place) (map inbox_of vacants)
    boxes_are place line at = let l = column_of place line at in l.2.1.boxes ∙ (filled place l.0 l.1).boxes

    -- the putter of a line at the mailbox of a slot
    box_is : (slot place : ℕ) (h : Holding ReaderView) (line : LineView E WriterView) (box : Putter Datagram) → slice_get vacants slot ≡ Some h → slice_get lines place ≡ Some line
        → IsBoxOf line.boxes slot box → box ≡ new_putter (inbox_of h) (length columns) place
    box_is slot place h line box at_slot at_line at_box =
        let f : QueueId → Putter Datagram = λ (mail : QueueId). new_putter mail (length columns) place in
        let second : slice_get (map f (map inbox_of vacants)) slot ≡ Some (f (inbox_of h)) =
        slice_get-map f (map inbox_of vacants) slot ∙ ap (option_map f) (slice_get-map inbox_of vacants slot ∙ ap (option_map inbox_of) at_slot) in
        same_Some box (f (inbox_of h)) (sym at_box ∙ (ap (λ (l : List (Putter Datagram)). slice_get l slot) (boxes_are place line at_line) ∙ second))

    -- the slots and the lines of all columns are of one host
    pub of_host : AreOfHost vacants lines
    of_host = record {
      ports = λ slot place h line at_slot at_line. (slot_is slot h at_slot).ports ∙ sym (column_of place line at_line).2.1.ports;
      words = λ slot place h line at_slot at_line. (slot_is slot h at_slot).words ∙ sym (column_of place line at_line).2.1.words;
      routes = λ slot place h lane line at_slot at_lane at_line.
          let l = column_of place line at_line in
          let first : slice_get (ways_of columns) place ≡ Some (lane_way lane) =
          ap (λ (w : List Way). slice_get w place) (sym (slot_is slot h at_slot).ways) ∙ (slice_get-map lane_way h.routes place ∙ ap (option_map lane_way) at_lane) in
          let second : slice_get (ways_of columns) place ≡ Some l.0.way = slice_get-map (λ (c : ColumnView). c.way) columns place ∙ ap (option_map (λ (c : ColumnView). c.way)) l.1 in
          let is : lane_way lane ≡ l.0.way = same_Some (lane_way lane) l.0.way (sym first ∙ second) in (
            ap (λ (w : Way). w.peer) is ∙ sym (ap (λ (c : ChannelView E). c.conn.peer) l.2.1.channel),
            ap (λ (w : Way). w.mail) is ∙ sym l.2.1.mail,
            ap (λ (w : Way). w.pair) is ∙ sym l.2.1.pair,
          );
      boxes = λ slot place h line box at_slot at_line at_box.
          ap (λ (b : Putter Datagram). b.mail)
          (box_is slot place h line box at_slot at_line (subst (λ (i : ℕ). slice_get line.boxes i ≡ Some box) (in_place slot h at_slot) at_box));
    }

    -- and no putter of theirs is missing
    pub all_passes : length vacants ≡ slots → Ascend (peers_to (ways_of columns)) → slot_seats vacants + line_seats lines ≡ 4095 →
        AreAllPasses vacants lines
    all_passes made ascend stand =
        let size : length lines ≡ length columns = all.count in
        record {
          places = in_place;
          peers = subst Ascend (sym peers_are) ascend;
          lanes = λ slot h at.
              sym (length-map h.routes lane_way) ∙ (ap length (slot_is slot h at).ways ∙ (length-map columns (λ (c : ColumnView). c.way) ∙ sym size));
          held = λ place line at.
              ap length (boxes_are place line at) ∙ (length-map (map inbox_of vacants) (λ (mail : QueueId). new_putter mail (length columns) place) ∙ length-map vacants inbox_of);
          orders = λ slot place h lane at_slot at_lane.
              let is = all_at (λ (l : Lane ReaderView). l.pass ≡ new_putter l.pass.mail slots h.words.slot) h.routes lane place (slot_is slot h at_slot).passes at_lane in
              let at = in_place slot h at_slot in (
                ap (λ (p : Putter Order). p.number) is ∙ ap putter_number at,
                ap (λ (p : Putter Order). p.splits) is ∙ (ap (splits_at slots) at ∙ ap (λ (n : ℕ). splits_at n slot) (sym made)),
              );
          boxes = λ slot place line box at_line at_box.
              let small = slice_get_within line.boxes slot box at_box in
              let many : length line.boxes ≡ length vacants =
              ap length (boxes_are place line at_line) ∙ (length-map (map inbox_of vacants) (λ (mail : QueueId). new_putter mail (length columns) place) ∙ length-map vacants inbox_of) in
              let h = there_is vacants slot (omega (arith, small, many)) in
              let is = box_is slot place h.0 line box h.1 at_line at_box in (
                ap (λ (b : Putter Datagram). b.number) is,
                ap (λ (b : Putter Datagram). b.splits) is ∙ ap (λ (n : ℕ). splits_at n place) (sym size),
              );
          seats = stand;
          no_order_joined = λ place line at. (column_of place line at).2.1.joined;
          no_box_joined = λ slot h at. ap (λ (g : Getter Datagram). g.joined) (slot_is slot h at).get;
        }
      where
        peers_are : map (λ (line : LineView E WriterView). line.channel.conn.peer) lines ≡ peers_to (ways_of columns)
        peers_are =
            same_lists _ _
            (length-map lines (λ (line : LineView E WriterView). line.channel.conn.peer) ∙ (all.count ∙ count_of columns))
            (λ k d small.
            let within : k < length lines = let size = length-map lines (λ (line : LineView E WriterView). line.channel.conn.peer) in omega arith in
            let line = there_is lines k within in
            let l = column_of k line.0 line.1 in
            get_or_from_slice_get (map (λ (line : LineView E WriterView). line.channel.conn.peer) lines) k line.0.channel.conn.peer d
            (slice_get-map (λ (line : LineView E WriterView). line.channel.conn.peer) lines k ∙ ap (option_map (λ (line : LineView E WriterView). line.channel.conn.peer)) line.1)
            ∙ (ap (λ (c : ChannelView E). c.conn.peer) l.2.1.channel
            ∙ sym (get_or_from_slice_get (peers_to (ways_of columns)) k l.0.way.peer d
            (slice_get-map (λ (w : Way). w.peer) (ways_of columns) k ∙ ap (option_map (λ (w : Way). w.peer)) (slice_get-map (λ (c : ColumnView). c.way) columns k ∙ ap (option_map (λ (c : ColumnView). c.way)) l.1)))))
