-- Why the lines of a host pulled maps with a port: what their seats at the meter, joined with those of the slots, show.
use Rattle.std.proofs.Common.{◌≡◌, ◌⊎◌, inl, inr, ℕ, suc, ◌+◌, ◌<◌, ◌≤◌, Bool, true, false, if◌then◌else◌, List, [], ◌∷◌, ◌++◌, All, Some, None, get_or, length, map, slice_get, option_map, refl, sym, ap, subst, ◌∙◌, append_assoc, arith}
use Rattle.std.specs.Prelude.{Contains}
use Rattle.std.proofs.lemmas.List.Elements.{All-contains, Contains-append_cases, Contains-append_right, Contains-get_or, Contains-push, Contains-push_cases}
use Rattle.std.proofs.lemmas.List.{length-map}
use Rattle.std.proofs.lemmas.Option.{same_Some, slice_get_within, slice_get-get_or, slice_get-map, get_or_from_slice_get}
use Rattle.rds_seats.specs.Views.{Table, total}
use Rattle.rds_model.specs.declared.entry.Entry.{Entry}
use Rattle.rds_model.specs.declared.entry.Entry.TheVariants as entry
use Rattle.rds_model.specs.declared.entry.Outcome.TheVariants as outcome
use Rattle.rds_model.specs.Deliveries.{put_bytes}
use Rattle.rds_meter.specs.declared.view.View.{View}
use Rattle.rds_meter.specs.declared.view.Check.{Check}
use Rattle.rds_meter.specs.Places.{limit_word, part, put_word}
use Rattle.rds_meter.specs.Seats.{MeterSeat, must_raise}
use Rattle.rds_meter.specs.Shared.{HasStored}
use Rattle.rds_meter.specs.Grounds.{AreRaisedAmong, IsRaisedAmong, SomeOf, seats_of}
use Rattle.rds_fmap.specs.Readers.{ReaderView, WriterView}
use Rattle.rds_socket.specs.Holding.{Holding, IsEnded}
use Rattle.rds_line_parts.specs.Counted.{AreChecksOf, IsCheckOf}
use Rattle.rds_line.specs.Keeps.{KeepsLine}
use Rattle.rds_line.specs.Line.{LineView, line_past}
use Rattle.rds_host.specs.Passes.{AreAllPasses}
use Rattle.rds_host.specs.Ties.{AreOfHost}
use Rattle.rds_host_end.proofs.Places.{all_at, mapped_at}
use Rattle.rds_host_end.specs.Grounded.{AreMapsGrounded, HasDelivered, IsGrounded}
use Rattle.rds_host_end.proofs.Owning.{each_of}

-- numbers added up, of mapped values and of two lists
total_map : {X Y : Type 0} (f : Y → ℕ) (g : X → Y) (xs : List X) → total f (map g xs) ≡ total (λ x. f (g x)) xs
total_map f g [] = refl
total_map f g (x ∷ xs) = ap (λ (n : ℕ). f (g x) + n) (total_map f g xs)

pub total_both : {X : Type 0} (f : X → ℕ) (xs ys : List X) → total f (xs ++ ys) ≡ total f xs + total f ys
total_both f [] ys = omega arith
total_both f (x ∷ xs) ys = let rest = total_both f xs ys in omega (arith, rest)

total_same : {X : Type 0} (f g : X → ℕ) (xs : List X) → ((place : ℕ) (x : X) → slice_get xs place ≡ Some x → f x ≡ g x) → total f xs ≡ total g xs
total_same f g [] each = refl
total_same f g (x ∷ xs) each =
    let first = each 0 x refl in
    let rest = total_same f g xs (λ place y at. each (suc place) y at) in
    omega (arith, first, rest)

total_none : {X : Type 0} (f : X → ℕ) (xs : List X) → ((place : ℕ) (x : X) → slice_get xs place ≡ Some x → f x ≡ 0) → total f xs ≡ 0
total_none f [] each = refl
total_none f (x ∷ xs) each =
    let first = each 0 x refl in
    let rest = total_none f xs (λ place y at. each (suc place) y at) in
    omega (arith, first, rest)

-- where a list contains a value, that stands at some place, and the other way
place_of : {X : Type 0} (xs : List X) (x : X) → Contains xs x → (i : ℕ) × (slice_get xs i ≡ Some x)
place_of xs x has = (has.0, slice_get-get_or xs has.0 x has.1 ∙ ap Some has.2)

contains_at : {X : Type 0} (xs : List X) (x : X) (i : ℕ) → slice_get xs i ≡ Some x → Contains xs x
contains_at xs x i at = (i, slice_get_within xs i x at, get_or_from_slice_get xs i x x at)

-- a delivery stands in a longer journal, too
delivered_later : (e : Entry) (past : List Entry) (port slot : ℕ) → HasDelivered port slot past → HasDelivered port slot (e ∷ past)
delivered_later e past port slot d = (d.0, d.1, Contains-append_right (e ∷ []) past (entry.Read d.0 d.1 (outcome.Slot slot)) d.2, d.3)

raised_port : (b : Bool) (p q : ℕ) → (if b then Some p else None) ≡ Some q → p ≡ q
raised_port true p q is = same_Some p q is
raised_port false p q is = absurd (cc)

-- a check that raised the bit of a port is that of a delivery at it
check_delivered : (past : List Entry) (checks : List Check) (c : Check) (port : ℕ) → AreChecksOf past checks → Contains checks c → c.raised ≡ Some port → HasDelivered port c.slot past
check_delivered [] checks c port are has raised = absurd (let inside = (subst (λ (l : List Check). Contains l c) are has).1 in omega arith)
check_delivered (entry.Read stream frame (outcome.Slot slot) ∷ past) checks c port are has raised =
    go (check_delivered past are.0 c port are.4) (Contains-push_cases are.0 are.1 c (subst (λ (l : List Check). Contains l c) are.2 has))
  where
    go : (Contains are.0 c → c.raised ≡ Some port → HasDelivered port c.slot past) → Contains are.0 c ⊎ (are.1 ≡ c) → HasDelivered port c.slot (entry.Read stream frame (outcome.Slot slot) ∷ past)
    go earlier (inl before) = delivered_later (entry.Read stream frame (outcome.Slot slot)) past port c.slot (earlier before raised)
    go earlier (inr is) =
        let mine : IsCheckOf slot frame.header.dport c = subst (IsCheckOf slot frame.header.dport) is are.3 in
        subst (λ (s : ℕ). HasDelivered port s (entry.Read stream frame (outcome.Slot slot) ∷ past)) (sym mine.slot_is)
        (stream, frame, (0, omega arith, refl), raised_port (must_raise c) frame.header.dport port (sym mine.raised ∙ raised))
check_delivered (entry.Read stream frame outcome.Old ∷ past) checks c port are has raised = delivered_later (entry.Read stream frame outcome.Old) past port c.slot (check_delivered past checks c port are has raised)
check_delivered (entry.Read stream frame outcome.NoSocket ∷ past) checks c port are has raised = delivered_later (entry.Read stream frame outcome.NoSocket) past port c.slot (check_delivered past checks c port are has raised)
check_delivered (entry.Read stream frame outcome.Ping ∷ past) checks c port are has raised = delivered_later (entry.Read stream frame outcome.Ping) past port c.slot (check_delivered past checks c port are has raised)
check_delivered (entry.Read stream frame outcome.Void ∷ past) checks c port are has raised = delivered_later (entry.Read stream frame outcome.Void) past port c.slot (check_delivered past checks c port are has raised)
check_delivered (entry.Read stream frame outcome.AckOnly ∷ past) checks c port are has raised = delivered_later (entry.Read stream frame outcome.AckOnly) past port c.slot (check_delivered past checks c port are has raised)
check_delivered (entry.Read stream frame outcome.Map ∷ past) checks c port are has raised = delivered_later (entry.Read stream frame outcome.Map) past port c.slot (check_delivered past checks c port are has raised)
check_delivered (entry.Read stream frame outcome.OddMap ∷ past) checks c port are has raised = delivered_later (entry.Read stream frame outcome.OddMap) past port c.slot (check_delivered past checks c port are has raised)
check_delivered (entry.Accept slot sport dport payload ∷ past) checks c port are has raised = delivered_later (entry.Accept slot sport dport payload) past port c.slot (check_delivered past checks c port are has raised)
check_delivered (entry.Cancel slot target ∷ past) checks c port are has raised = delivered_later (entry.Cancel slot target) past port c.slot (check_delivered past checks c port are has raised)
check_delivered (entry.Open stream ∷ past) checks c port are has raised = delivered_later (entry.Open stream) past port c.slot (check_delivered past checks c port are has raised)
check_delivered (entry.Pull stream frame ∷ past) checks c port are has raised = delivered_later (entry.Pull stream frame) past port c.slot (check_delivered past checks c port are has raised)
check_delivered (entry.Shut stream ∷ past) checks c port are has raised = delivered_later (entry.Shut stream) past port c.slot (check_delivered past checks c port are has raised)
check_delivered (entry.Bad stream header cause ∷ past) checks c port are has raised = delivered_later (entry.Bad stream header cause) past port c.slot (check_delivered past checks c port are has raised)

-- the same seats
pub same_meters : (P : MeterSeat → MeterSeat → Type 0) (slots others lines rest : List MeterSeat) → slots ≡ others → lines ≡ rest → All (λ (slot : MeterSeat). All (P slot) lines) slots
    → All (λ (slot : MeterSeat). All (P slot) rest) others
same_meters P slots others lines rest one two all =
    subst (λ (l : List MeterSeat). All (λ (slot : MeterSeat). All (P slot) rest) l) one
    (subst (λ (l : List MeterSeat). All (λ (slot : MeterSeat). All (P slot) l) slots) two all)

pub same_grounds : (slots others lines rest : List MeterSeat) → slots ≡ others → lines ≡ rest → (1 ≤ length slots → 1 ≤ length lines → AreRaisedAmong (slots ++ lines))
    → 1 ≤ length others → 1 ≤ length rest → AreRaisedAmong (others ++ rest)
same_grounds slots others lines rest one two all =
    subst (λ (l : List MeterSeat). 1 ≤ length l → 1 ≤ length rest → AreRaisedAmong (l ++ rest)) one
    (subst (λ (l : List MeterSeat). 1 ≤ length slots → 1 ≤ length l → AreRaisedAmong (slots ++ l)) two all)

-- the seats of a host, the last line's apart
module _ (slots lines front : List MeterSeat) (last : MeterSeat) (is : lines ≡ front ++ last ∷ []) where
  with_last : (slots ++ front) ++ last ∷ [] ≡ slots ++ lines
  with_last = append_assoc slots front (last ∷ []) ∙ ap (λ (l : List MeterSeat). slots ++ l) (sym is)

  pub with_all : (most all : List MeterSeat) (seat : MeterSeat) → most ≡ slots ++ front → seat ≡ last → all ≡ most ++ seat ∷ [] → all ≡ slots ++ lines
  with_all most all seat first own pushed =
      pushed ∙ (ap (λ (l : List MeterSeat). l ++ seat ∷ []) first ∙ (ap (λ (h : MeterSeat). (slots ++ front) ++ h ∷ []) own ∙ with_last))

  -- all are at the meter of the last
  pub at_last : (meter : Table) → last.table ≡ meter → 0 < length slots → All (λ (slot : MeterSeat). All (λ (line : MeterSeat). slot.table ≡ line.table) lines) slots
      → All (λ (h : MeterSeat). h.table ≡ meter) (slots ++ lines)
  at_last meter of some tables =
      let here : Contains lines last = subst (λ (l : List MeterSeat). Contains l last) (sym is) (Contains-push front last) in
      each_of (λ (h : MeterSeat). h.table ≡ meter) (slots ++ lines) (λ i h at.
      let has = contains_at (slots ++ lines) h i at in
      go here h (Contains-append_cases slots lines h has))
    where
      to : (slot line : MeterSeat) → Contains slots slot → Contains lines line → slot.table ≡ line.table
      to slot line one two =
          All-contains (λ (l : MeterSeat). slot.table ≡ l.table) lines line
          (All-contains (λ (s : MeterSeat). All (λ (l : MeterSeat). s.table ≡ l.table) lines) slots slot tables one) two

      first : Contains slots (get_or slots 0 last)
      first = Contains-get_or slots 0 last some

      go : Contains lines last → (h : MeterSeat) → Contains slots h ⊎ Contains lines h → h.table ≡ meter
      go here h (inl slot) = to h last slot here ∙ of
      go here h (inr line) = sym (to (get_or slots 0 last) h first line) ∙ (to (get_or slots 0 last) last first here ∙ of)

abbrev pub slot_words : Holding ReaderView → MeterSeat
slot_words h = h.words.seat

module _ {E : Type 0} where
  abbrev pub line_words : LineView E WriterView → MeterSeat
  line_words line = line.words

  module _ (slots : List (Holding ReaderView)) (lines : List (LineView E WriterView)) where
    pub at_one_meter : AreOfHost slots lines → All (λ (slot : MeterSeat). All (λ (line : MeterSeat). slot.table ≡ line.table) (map line_words lines)) (map slot_words slots)
    at_one_meter host =
        each_of (λ (slot : MeterSeat). All (λ (line : MeterSeat). slot.table ≡ line.table) (map line_words lines)) (map slot_words slots) (λ i slot at.
        let h = mapped_at slot_words slots slot i at in
        each_of (λ (line : MeterSeat). slot.table ≡ line.table) (map line_words lines) (λ k line at'.
        let l = mapped_at line_words lines line k at' in
        ap (λ (s : MeterSeat). s.table) (sym h.2) ∙ (host.words i k h.0 l.0 h.1 l.1 ∙ ap (λ (s : MeterSeat). s.table) l.2)))

    -- they stand for all seats
    pub all_stand : AreAllPasses slots lines → total (λ (h : MeterSeat). seats_of h.view) (map slot_words slots) + total (λ (h : MeterSeat). seats_of h.view) (map line_words lines) ≡ 4095
    all_stand all =
        let one = total_map (λ (h : MeterSeat). seats_of h.view) slot_words slots in
        let two = total_map (λ (h : MeterSeat). seats_of h.view) line_words lines in
        let was = all.seats in
        omega (arith, one, two, was)

    abbrev all_seats : List MeterSeat
    all_seats = map slot_words slots ++ map line_words lines

    -- who knows such a thing is a slot or a line
    who : (P : View → Type 0) → SomeOf all_seats P → ((i : ℕ) × (h : Holding ReaderView) × (slice_get slots i ≡ Some h) × P h.words.seat.view) ⊎ ((k : ℕ) × (line : LineView E WriterView) × (slice_get lines k ≡ Some line) × P line.words.view)
    who P s = go (Contains-append_cases (map slot_words slots) (map line_words lines) s.0 s.1)
      where
        go : Contains (map slot_words slots) s.0 ⊎ Contains (map line_words lines) s.0 → ((i : ℕ) × (h : Holding ReaderView) × (slice_get slots i ≡ Some h) × P h.words.seat.view) ⊎ ((k : ℕ) × (line : LineView E WriterView) × (slice_get lines k ≡ Some line) × P line.words.view)
        go (inl here) =
            let at = place_of (map slot_words slots) s.0 here in
            let h = mapped_at slot_words slots s.0 at.0 at.1 in
            inl (at.0, h.0, h.1, subst (λ (x : MeterSeat). P x.view) (sym h.2) s.2)
        go (inr there) =
            let at = place_of (map line_words lines) s.0 there in
            let l = mapped_at line_words lines s.0 at.0 at.1 in
            inr (at.0, l.0, l.1, subst (λ (x : MeterSeat). P x.view) (sym l.2) s.2)

    module _ (ended : All IsEnded slots) (kept : All (KeepsLine (λ w. w.published)) lines) where
      slot_is : (i : ℕ) (h : Holding ReaderView) → slice_get slots i ≡ Some h → IsEnded h
      slot_is i h at = all_at IsEnded slots h i ended at

      line_is : (k : ℕ) (line : LineView E WriterView) → slice_get lines k ≡ Some line → KeepsLine (λ w. w.published) line
      line_is k line at = all_at (KeepsLine (λ w. w.published)) lines line k kept at

      -- what they have put into the mailbox of a slot is what the journals delivered to it
      put_by_all : (slot : ℕ) → slot < 1024 → total (λ (h : MeterSeat). part (put_word slot) h.view.steps) all_seats ≡ total (λ (line : LineView E WriterView). put_bytes slot (line_past line)) lines
      put_by_all slot small =
          let f : MeterSeat → ℕ = λ (h : MeterSeat). part (put_word slot) h.view.steps in
          let both = total_both f (map slot_words slots) (map line_words lines) in
          let of_slots = total_map f slot_words slots in
          let of_lines = total_map f line_words lines in
          let none = total_none (λ (h : Holding ReaderView). part (put_word slot) h.words.seat.view.steps) slots
          (λ i h at. (slot_is i h at).held.quiet.parts (put_word slot) (λ same. absurd (omega (arith, same, small)))) in
          let same = total_same (λ (line : LineView E WriterView). part (put_word slot) line.words.view.steps) (λ (line : LineView E WriterView). put_bytes slot (line_past line)) lines
          (λ k line at. (line_is k line at).counted.put slot small) in
          omega (arith, both, of_slots, of_lines, none, same)

      nothing_in : {X : Type 0} (xs : List X) (x : X) → xs ≡ [] → Contains xs x → ⊥
      nothing_in {X} xs x none has = let inside = (subst (λ (l : List X). Contains l x) none has).1 in omega arith

      ground_of : (port : ℕ) → IsRaisedAmong all_seats port → IsGrounded slots lines port
      ground_of port r =
          let check = r.check in
          made (who (λ v. Contains v.checks check) r.made) (who (HasStored check.slot check.limit) r.stored)
        where
          made : ((i : ℕ) × (h : Holding ReaderView) × (slice_get slots i ≡ Some h) × Contains h.words.seat.view.checks r.check) ⊎ ((k : ℕ) × (line : LineView E WriterView) × (slice_get lines k ≡ Some line) × Contains line.words.view.checks r.check)
              → ((i : ℕ) × (h : Holding ReaderView) × (slice_get slots i ≡ Some h) × HasStored r.check.slot r.check.limit h.words.seat.view) ⊎ ((k : ℕ) × (line : LineView E WriterView) × (slice_get lines k ≡ Some line) × HasStored r.check.slot r.check.limit line.words.view)
              → IsGrounded slots lines port
          made (inl s) stored = absurd (nothing_in s.1.words.seat.view.checks r.check (slot_is s.0 s.1 s.2).held.quiet.checks s.3)
          made (inr l) (inr other) = absurd ((line_is other.0 other.1 other.2).stored (limit_word r.check.slot) r.check.limit other.3)
          made (inr l) (inl s) = record {
            slot = r.check.slot;
            place = l.0;
            line = l.1;
            stands = l.2;
            delivered = check_delivered (line_past l.1) l.1.words.view.checks r.check port (line_is l.0 l.1 l.2).counted.checks l.3 r.raised;
            limit = r.check.limit;
            owner = s.0;
            held = s.1;
            owned = s.2;
            stored = s.3;
            above = subst (λ (n : ℕ). r.check.limit < n) (put_by_all r.check.slot r.small) r.above;
          }

      pub grounded : (1 ≤ length (map slot_words slots) → 1 ≤ length (map line_words lines) → AreRaisedAmong all_seats) → AreMapsGrounded slots lines
      grounded raised some place line at port small pulled =
          let keeps = line_is place line at in
          let there = slice_get_within lines place line at in
          let found = keeps.pulled port small pulled in
          let stands : slice_get (map line_words lines) place ≡ Some line.words = slice_get-map line_words lines place ∙ ap (option_map line_words) at in
          let among = Contains-append_right (map slot_words slots) (map line_words lines) line.words (contains_at (map line_words lines) line.words place stands) in
          ground_of port
          (raised (subst (λ (n : ℕ). 1 ≤ n) (sym (length-map slots slot_words)) some)
          (subst (λ (n : ℕ). 1 ≤ n) (sym (length-map lines line_words)) (omega (arith, there)))
          port small (line.words, among, found))
