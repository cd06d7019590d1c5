-- How lines are told of what slots put, one after another.
use Rattle.std.proofs.Common.{◌≡◌, ℕ, ◌+◌, ◌-◌, ◌<◌, ◌≤◌, List, [], ◌∷◌, ◌++◌, All, Some, length, get_or, set, map, take, drop, slice_get, refl, sym, ap, subst, ⊎_elim, ◌∙◌, arith}
use Rattle.std.proofs.lemmas.Bool.{cases_eq}
use Rattle.std.proofs.lemmas.List.{length-set, map_push, take_more, drop_more, drop-set-lt}
use Rattle.std.proofs.lemmas.Option.{same_Some, slice_get_within, slice_get-get_or, get_or_from_slice_get}
use Rattle.rds_model.specs.Honest.{Begins}
use Rattle.rds_model.specs.declared.order.Datagram.{Datagram}
use Rattle.rds_model.specs.declared.order.Order.{Order}
use Rattle.rds_mail.specs.Passes.{Putter, account_of, after_note}
use Rattle.rds_bindtab.specs.declared.view.Telling.{Telling}
use Rattle.rds_bindtab.specs.Seats.{PortSeat}
use Rattle.rds_fmap.specs.Readers.{ReaderView, WriterView}
use Rattle.rds_socket_parts.specs.Lanes.{IsLaneAt, Lane}
use Rattle.rds_line_parts.specs.Boxes.{IsBoxOf}
use Rattle.rds_line_channel.specs.PlaceLaws.{at_set, beside_set}
use Rattle.rds_socket.specs.Holding.{Holding}
use Rattle.rds_line.specs.Line.{LineView}
use Rattle.rds_host.specs.Keeping.{LinesKeep}
use Rattle.rds_host.specs.Settled.{AreSettled, CanTell, IsToldMore, knowing_ports}
use Rattle.rds_host.specs.Telling.{IsTold}
use Rattle.rds_host.proofs.Pushing.{all_at}
use Rattle.rds_host.proofs.Kept.{beside, host_kept, slots_same}
use Rattle.rds_host.proofs.Knowing.{LinesUpTo, all_lines, lines_told_same, lines_told_through, next_line}
use Rattle.rds_host.proofs.Told.{told_still, told_now, appended_at, ahead, behind, same_at, taken_set, only_at, heard, slot_told_same, slot_told_through, none_slots, slots_append}

module _ {E : Type 0} where
  -- those that are among slots that can be told
  pub can_few : (slots few : List (Holding ReaderView)) (lines : List (LineView E WriterView)) → ((k : ℕ) (h : Holding ReaderView) → slice_get few k ≡ Some h → (slot : ℕ) × (slice_get slots slot ≡ Some h))
      → CanTell slots lines → CanTell few lines
  can_few slots few lines among can =
      let of = can.host in
      record {
        host = record {
          ports = λ k place h line at at_line. let s = among k h at in of.ports s.0 place h line s.1 at_line;
          words = λ k place h line at at_line. let s = among k h at in of.words s.0 place h line s.1 at_line;
          routes = λ k place h lane line at at_lane at_line. let s = among k h at in of.routes s.0 place h lane line s.1 at_lane at_line;
          boxes = λ k place h line box at at_line at_box. let s = among k h at in of.boxes s.0 place h line box s.1 at_line at_box;
        };
        routes = λ k d small.
            let s = among k (get_or few k d) (slice_get-get_or few k d small) in
            all_at (λ (h : Holding ReaderView). length h.routes ≡ length lines) slots (get_or few k d) s.0 can.routes s.1;
        boxes = λ k d small.
            let s = among k (get_or few k d) (slice_get-get_or few k d small) in
            all_at (λ (h : Holding ReaderView). All (λ line. h.words.slot < length line.boxes) lines) slots (get_or few k d) s.0 can.boxes s.1;
      }

  pub can_one : (slots : List (Holding ReaderView)) (lines : List (LineView E WriterView)) (slot : ℕ) (h : Holding ReaderView) → slice_get slots slot ≡ Some h → CanTell slots lines → CanTell (h ∷ []) lines
  can_one slots lines slot h at can = can_few slots (h ∷ []) lines (λ k other stands. (slot, at ∙ ap Some (only_at h other k stands))) can

  -- those in front, and those behind
  pub can_front : (front back : List (Holding ReaderView)) (lines : List (LineView E WriterView)) → CanTell (front ++ back) lines → CanTell front lines
  can_front front back lines can = can_few (front ++ back) front lines (λ k h at. (k, ahead front back h k at)) can

  pub can_back : (front back : List (Holding ReaderView)) (lines : List (LineView E WriterView)) → CanTell (front ++ back) lines → CanTell back lines
  can_back front back lines can = can_few (front ++ back) back lines (λ k h at. (length front + k, behind front back h k at)) can

  -- and they can still be told once lines were told more
  pub can_still : (slots : List (Holding ReaderView)) (lines after : List (LineView E WriterView)) → LinesKeep lines after → CanTell slots lines → CanTell slots after
  can_still slots lines after stay can = record {
    host = host_kept slots slots lines after (slots_same slots) stay can.host;
    routes = λ k d small. can.routes k d small ∙ sym stay.count;
    boxes = λ k d small i e within.
        let line = get_or after i e in
        let at = slice_get-get_or after i e within in
        let was = beside lines after line i stay.count at in
        let count = (stay.each i was.0 line was.1 at).boxes.count in
        let few = all_at (λ (l : LineView E WriterView). (get_or slots k d).words.slot < length l.boxes) lines was.0 i (can.boxes k d small) was.1 in
        omega (arith, count, few);
  }

  -- a slot and the lines up to one were told of each other, and these lines of these ports
  pub record ToldUpTo (n : ℕ) (ports : List Telling) (old h : Holding ReaderView) (lines told : List (LineView E WriterView)) : Type 0 where
    pub slot : IsToldMore old h
    pub lines_stay : LinesUpTo n ports lines told
    pub orders : (place : ℕ) (line : LineView E WriterView) (lane : Lane ReaderView) → place < n → slice_get told place ≡ Some line → IsLaneAt h.routes place lane → IsTold line.orders.told lane.pass
    pub boxes : (place : ℕ) (line : LineView E WriterView) (box : Putter Datagram) → place < n → slice_get told place ≡ Some line → IsBoxOf line.boxes h.words.slot box → IsTold h.inbox.get.told box

  pub none_told : (ports : List Telling) (h : Holding ReaderView) (lines : List (LineView E WriterView)) → ToldUpTo 0 ports h h lines lines
  none_told ports h lines = record {
    slot = slot_told_same h;
    lines_stay = record { count = refl; each = λ place line after small stood stands. absurd (omega (arith, small)); left = λ place line past at. at };
    orders = λ place line lane small at at_lane. absurd (omega (arith, small));
    boxes = λ place line box small at at_box. absurd (omega (arith, small));
  }

  pub all_told : (n : ℕ) (ports : List Telling) (old h : Holding ReaderView) (lines told : List (LineView E WriterView)) → length told ≤ n → ToldUpTo n ports old h lines told
      → AreSettled ports (old ∷ []) (h ∷ []) lines told
  all_told n ports old h lines told all up = record {
    slots_stay = record {
      count = refl;
      each = λ slot before after stood stands.
          subst (λ (x : Holding ReaderView). IsToldMore x after) (only_at old before slot stood) (subst (IsToldMore old) (only_at h after slot stands) up.slot);
    };
    lines_stay = all_lines n ports lines told all up.lines_stay;
    orders = λ place line at slot other lane at_slot at_lane.
        let small = slice_get_within told place line at in
        up.orders place line lane (omega (arith, small, all)) at (subst (λ (x : Holding ReaderView). IsLaneAt x.routes place lane) (sym (only_at h other slot at_slot)) at_lane);
    boxes = λ slot other at_slot.
        subst (λ (x : Holding ReaderView). (place : ℕ) (line : LineView E WriterView) (box : Putter Datagram) → slice_get told place ≡ Some line → IsBoxOf line.boxes x.words.slot box → IsTold x.inbox.get.told box)
        (only_at h other slot at_slot)
        (λ place line box at at_box. let small = slice_get_within told place line at in up.boxes place line box (omega (arith, small, all)) at at_box);
  }

  -- what the next line and the slot need, to be told of each other
  module _ (n : ℕ) (ports : List Telling) (old h : Holding ReaderView) (lines told : List (LineView E WriterView)) (can : CanTell (old ∷ []) lines) (up : ToldUpTo n ports old h lines told)
      (line : LineView E WriterView) (at : slice_get told n ≡ Some line) where
    was : slice_get lines n ≡ Some line
    was = up.lines_stay.left n line (omega arith) at

    pub fit_route : n < length h.routes
    fit_route =
        let count : length old.routes ≡ length lines = can.routes 0 old (omega arith) in
        let same : length h.routes ≡ length old.routes = ap (λ (x : Holding ReaderView). length x.routes) up.slot.rest in
        let small = slice_get_within lines n line was in
        omega (arith, count, same, small)

    pub fit_orders : (lane : Lane ReaderView) → IsLaneAt h.routes n lane → lane.pass.mail ≡ line.orders.mail
    fit_orders lane at_lane =
        (can.host.routes 0 n old lane line refl (subst (λ (l : List (Lane ReaderView)). IsLaneAt l n lane) (ap (λ (x : Holding ReaderView). x.routes) up.slot.rest) at_lane) was).1

    pub fit_port : h.ports.table ≡ line.ports.table
    fit_port = ap (λ (x : Holding ReaderView). x.ports.table) up.slot.rest ∙ can.host.ports 0 n old line refl was

    pub fit_box : old.words.slot < length line.boxes
    fit_box = all_at (λ (l : LineView E WriterView). old.words.slot < length l.boxes) lines line n (can.boxes 0 old (omega arith)) was

    pub fit_hear : (box : Putter Datagram) → IsBoxOf line.boxes old.words.slot box → box.mail ≡ h.inbox.get.mail
    fit_hear box at_box = can.host.boxes 0 n old line box refl was at_box ∙ sym (ap (λ (x : Holding ReaderView). x.inbox.get.mail) up.slot.rest)

  -- a line that was told of this putter of orders, with this seat
  abbrev pub noted : LineView E WriterView → Putter Order → PortSeat → LineView E WriterView
  noted line pass seat = record line { orders = after_note line.orders pass; ports = seat }

  -- the next line and the slot are told of each other
  told_next : (n : ℕ) (ports : List Telling) (old h : Holding ReaderView) (lines told : List (LineView E WriterView)) (line : LineView E WriterView) (lane : Lane ReaderView)
      (box : Putter Datagram) (seat : PortSeat)
      → slice_get told n ≡ Some line → IsLaneAt h.routes n lane → IsBoxOf line.boxes h.words.slot box → seat ≡ knowing_ports line.ports ports
      → ToldUpTo n ports old h lines told → ToldUpTo (n + 1) ports old (heard h box) lines (set told n (noted line lane.pass seat))
  told_next n ports old h lines told line lane box seat at at_lane at_box knows up =
      let new = noted line lane.pass seat in
      let stands = at_set told n new (slice_get_within told n line at) in
      let longer : Begins h.inbox.get.told (h.inbox.get.told ++ account_of box ∷ []) = (account_of box ∷ [], refl) in
      record {
        slot = slot_told_through old h (heard h box) up.slot (record { rest = refl; told = longer });
        lines_stay = next_line n ports lines told line new at (record { rest = ap (noted line lane.pass) knows; told = (account_of lane.pass ∷ [], refl) }) up.lines_stay;
        orders = λ place other route small at_place at_route.
            ⊎_elim
            (λ (here : place ≡ n).
            let is : new ≡ other = same_Some new other (sym stands ∙ (ap (slice_get (set told n new)) (sym here) ∙ at_place)) in
            let by : lane ≡ route = same_Some lane route (sym at_lane ∙ (ap (slice_get h.routes) (sym here) ∙ at_route)) in
            subst (λ (l : LineView E WriterView). IsTold l.orders.told route.pass) is
            (subst (λ (r : Lane ReaderView). IsTold (line.orders.told ++ account_of lane.pass ∷ []) r.pass) by (told_now line.orders.told lane.pass)))
            (λ (apart : place ≡ n → ⊥).
            let before : place < n = grind arith in
            up.orders place other route before (sym (beside_set told n place new apart) ∙ at_place) at_route)
            (cases_eq place n);
        boxes = λ place other put small at_place at_put.
            ⊎_elim
            (λ (here : place ≡ n).
            let is : new ≡ other = same_Some new other (sym stands ∙ (ap (slice_get (set told n new)) (sym here) ∙ at_place)) in
            let by : box ≡ put = same_Some box put (sym at_box ∙ (ap (λ (l : LineView E WriterView). slice_get l.boxes h.words.slot) is ∙ at_put)) in
            subst (λ (b : Putter Datagram). IsTold (h.inbox.get.told ++ account_of box ∷ []) b) by (told_now h.inbox.get.told box))
            (λ (apart : place ≡ n → ⊥).
            let before : place < n = grind arith in
            told_still h.inbox.get.told (h.inbox.get.told ++ account_of box ∷ []) put longer
            (up.boxes place other put before (sym (beside_set told n place new apart) ∙ at_place) at_put))
            (cases_eq place n);
      }

  pub told_more : (n : ℕ) (ports : List Telling) (old h after : Holding ReaderView) (lines told : List (LineView E WriterView)) (line new : LineView E WriterView) (lane : Lane ReaderView)
      (box : Putter Datagram)
      → slice_get told n ≡ Some line → IsLaneAt h.routes n lane → IsBoxOf line.boxes h.words.slot box → new.ports ≡ knowing_ports line.ports ports
      → new ≡ noted line lane.pass new.ports → after ≡ heard h box
      → ToldUpTo n ports old h lines told → ToldUpTo (n + 1) ports old after lines (set told n new)
  told_more n ports old h after lines told line new lane box at at_lane at_box knows is_line is_slot up =
      subst (λ (x : Holding ReaderView). ToldUpTo (n + 1) ports old x lines (set told n new)) (sym is_slot)
      (subst (λ (l : LineView E WriterView). ToldUpTo (n + 1) ports old (heard h box) lines (set told n l)) (sym is_line)
      (told_next n ports old h lines told line lane box new.ports at at_lane at_box knows up))

  -- what the calls on a line leave it with
  pub line_noted : (line first second new : LineView E WriterView) (note pass : Putter Order) (seat : PortSeat) → note ≡ pass → first ≡ record line { orders = after_note line.orders note }
      → second ≡ record first { ports = seat } → new ≡ second → (new ≡ noted line pass new.ports) × (new.ports ≡ seat)
  line_noted line first second new note pass seat is heard_first heard_second same =
      let full : new ≡ noted line pass seat =
      same ∙ (heard_second ∙ (ap (λ (l : LineView E WriterView). record l { ports = seat }) heard_first ∙ ap (λ (p : Putter Order). noted line p seat) is)) in
      let ports : new.ports ≡ seat = ap (λ (l : LineView E WriterView). l.ports) full in
      (full ∙ ap (noted line pass) (sym ports), ports)

  pub none_settled : (lines : List (LineView E WriterView)) → AreSettled [] [] [] lines lines
  none_settled lines = record {
    slots_stay = none_slots;
    lines_stay = lines_told_same lines;
    orders = λ place line at slot h lane at_slot at_lane. absurd (let small = slice_get_within [] slot h at_slot in omega arith);
    boxes = λ slot h at. absurd (let small = slice_get_within [] slot h at in omega arith);
  }

  -- some slots after others
  pub settled_more : (ports others : List Telling) (old new more later : List (Holding ReaderView)) (lines middle told : List (LineView E WriterView)) → AreSettled ports old new lines middle
      → AreSettled others more later middle told → AreSettled (ports ++ others) (old ++ more) (new ++ later) lines told
  settled_more ports others old new more later lines middle told first second = record {
    slots_stay = slots_append old new more later first.slots_stay second.slots_stay;
    lines_stay = lines_told_through ports others lines middle told first.lines_stay second.lines_stay;
    orders = λ place line at slot h lane at_slot at_lane.
        ⊎_elim
        (λ (was : slice_get new slot ≡ Some h).
        let before = beside middle told line place second.lines_stay.count at in
        told_still before.0.orders.told line.orders.told lane.pass (second.lines_stay.each place before.0 line before.1 at).told
        (first.orders place before.0 before.1 slot h lane was at_lane))
        (λ (is : (length new ≤ slot) × (slice_get later (slot - length new) ≡ Some h)). second.orders place line at (slot - length new) h lane is.1 at_lane)
        (appended_at new later h slot at_slot);
    boxes = λ slot h at_slot place line box at at_box.
        ⊎_elim
        (λ (was : slice_get new slot ≡ Some h).
        let before = beside middle told line place second.lines_stay.count at in
        first.boxes slot h was place before.0 box before.1
        (subst (λ (b : List (Putter Datagram)). IsBoxOf b h.words.slot box) (ap (λ (l : LineView E WriterView). l.boxes) (second.lines_stay.each place before.0 line before.1 at).rest) at_box))
        (λ (is : (length new ≤ slot) × (slice_get later (slot - length new) ≡ Some h)). second.boxes (slot - length new) h is.1 place line box at at_box)
        (appended_at new later h slot at_slot);
  }

  -- a loop that tells one after another
  pub settled_set : {X : Type 0} (own : X → Holding ReaderView) (ports others : List Telling) (old new : List X) (i : ℕ) (s after : X) (lines middle told : List (LineView E WriterView))
      → length new ≡ length old → drop i new ≡ drop i old → slice_get new i ≡ Some s
      → AreSettled ports (map own (take i old)) (map own (take i new)) lines middle → AreSettled others (own s ∷ []) (own after ∷ []) middle told
      → (length (set new i after) ≡ length old) × (drop (i + 1) (set new i after) ≡ drop (i + 1) old)
      × AreSettled (ports ++ others) (map own (take (i + 1) old)) (map own (take (i + 1) (set new i after))) lines told
  settled_set own ports others old new i s after lines middle told count same at before now =
      let small = slice_get_within new i s at in
      let within : i < length old = omega (arith, count, small) in
      let stood : get_or old i s ≡ s = get_or_from_slice_get old i s s (same_at new old i s same at) in
      let held : get_or new i s ≡ s = get_or_from_slice_get new i s s at in
      let cut_new = drop_more new i s small in
      let cut_old = drop_more old i s within in
      let left : drop (i + 1) new ≡ drop (i + 1) old = cc in
      let taken : map own (take i old) ++ own s ∷ [] ≡ map own (take (i + 1) old) =
      sym (map_push own (take i old) s) ∙ ap (map own) (ap (λ x. take i old ++ x ∷ []) (sym stood) ∙ sym (take_more old i s within)) in
      let given : map own (take i new) ++ own after ∷ [] ≡ map own (take (i + 1) (set new i after)) =
      sym (map_push own (take i new) after) ∙ ap (map own) (sym (taken_set new i after small)) in (
        length-set new i after ∙ count,
        drop-set-lt (i + 1) new i after (omega arith) ∙ left,
        subst (λ (l : List (Holding ReaderView)). AreSettled (ports ++ others) l (map own (take (i + 1) (set new i after))) lines told) taken
            (subst (λ (l : List (Holding ReaderView)). AreSettled (ports ++ others) (map own (take i old) ++ own s ∷ []) l lines told) given
            (settled_more ports others (map own (take i old)) (map own (take i new)) (own s ∷ []) (own after ∷ []) lines middle told before now)),
      )
