-- Loops that tell getters of what was put.
use Rattle.std.proofs.Common.{◌≡◌, ◌⊎◌, inl, inr, ℕ, zero, suc, ◌+◌, ◌<◌, ◌≤◌, List, [], ◌∷◌, ◌++◌, Some, length, option_map, slice_get, slice_set, refl, sym, ap, subst, ◌∙◌, arith}
use Rattle.std.proofs.lemmas.Option.{same_Some, slice_get-map}
use Rattle.std.proofs.lemmas.Bool.{cases_eq}
use Rattle.rds_mail.specs.Passes.{Putter, account_of, after_note}
use Rattle.rds_fmap.specs.Readers.{ReaderView, WriterView}
use Rattle.rds_model.specs.declared.order.Order.{Order}
use Rattle.rds_model.specs.declared.order.Datagram.{Datagram}
use Rattle.rds_socket_parts.specs.Lanes.{IsLaneAt, Lane}
use Rattle.rds_line_parts.specs.Boxes.{IsBoxOf}
use Rattle.rds_socket.specs.Holding.{Holding}
use Rattle.rds_line.specs.Line.{LineView}
use Rattle.rds_host.specs.Telling.{AreBoxesTold, AreOrdersTold}
use Rattle.rds_run_callers.specs.Places.{Bound, Ended, IsUsed, Place, Spare, Vacant, holding_of, told_by, with_holding}
use Rattle.rds_run_settling.specs.Steps.{AreLinesToldTo, AreSlotsToldTo, CanTellLine}
use Rattle.rds_run_settling.specs.Tied.{AreTied, LineHears, LinesHear, PlaceHears, PlacesHear, holdings}
use Rattle.rds_run_settling.proofs.Told.{stood_at, told_last, told_more}
use Rattle.rds_run_settling.proofs.Tying.{at_map, length_map}

-- a list has something at each place below its length
pub some_at : {T : Type 0} (xs : List T) (i : ℕ) → i < length xs → (x : T) × (slice_get xs i ≡ Some x)
some_at [] i below = absurd (omega (arith, below))
some_at (x ∷ xs) zero below = (x, refl)
some_at (x ∷ xs) (suc i) below = some_at xs i (omega (arith, below))

module _ {E : Type 0} where
  -- a line that was told of nothing
  pub hears_none : (line : LineView E WriterView) → LineHears line line
  hears_none line = refl

  -- one that was told of a note more
  pub hears_note : (first line : LineView E WriterView) (note : Putter Order) → LineHears first line →
      LineHears first (record line { orders = after_note line.orders note })
  hears_note first line note e =
      ap (λ (l : LineView E WriterView). record l { orders = record l.orders { told = line.orders.told ++ account_of note ∷ [] } }) e

  -- the line was told of the next slot too
  pub told_next : (upto place : ℕ) (places : List Place) (line : LineView E WriterView) (note : Putter Order) →
      ((p : Place) → slice_get places upto ≡ Some p → (lane : Lane ReaderView) × IsLaneAt (holding_of p).routes place lane × (note ≡ lane.pass)) →
      AreSlotsToldTo upto places place line → AreSlotsToldTo (upto + 1) places place (record line { orders = after_note line.orders note })
  told_next upto place places line note is told slot p lane below at at_lane = elim (cases_eq slot upto) [
    | inl same ↦
        let here = is p (subst (λ (n : ℕ). slice_get places n ≡ Some p) same at) in
        let one : here.0 ≡ lane = same_Some here.0 lane (sym here.1 ∙ at_lane) in
        told_last line.orders.told lane.pass note (sym (here.2 ∙ ap (λ (l : Lane ReaderView). l.pass) one))
    | inr other ↦ told_more line.orders.told (account_of note ∷ []) lane.pass (told slot p lane (omega (arith, below, other)) at at_lane)
  ]

  -- so it was of all
  pub told_all : (upto place : ℕ) (places : List Place) (line : LineView E WriterView) → length places ≤ upto → AreSlotsToldTo upto places place line →
      AreOrdersTold (holdings places) place line
  told_all upto place places line all told slot h lane at at_lane =
      let p = at_map holding_of places slot h at in
      told slot p.0 lane (omega (arith, all, within places slot p.0 p.1)) p.1 (subst (λ (x : Holding ReaderView). IsLaneAt x.routes place lane) p.2 at_lane)
    where
      within : (ps : List Place) (i : ℕ) (q : Place) → slice_get ps i ≡ Some q → i < length ps
      within [] i q is = absurd (cc)
      within (x ∷ ps) zero q is = omega arith
      within (x ∷ ps) (suc i) q is = let rest = within ps i q is in omega (arith, rest)

-- what stands at a place of a list of which one place was set
pub set_at : {T : Type 0} (xs : List T) (i j : ℕ) (y x : T) → slice_get (slice_set xs i y) j ≡ Some x → ((j ≡ i) × (x ≡ y)) ⊎ ((j ≡ i → ⊥) × (slice_get xs j ≡ Some x))
set_at [] i j y x at = absurd (cc)
set_at (z ∷ xs) zero zero y x at = inl (refl, sym (same_Some y x at))
set_at (z ∷ xs) zero (suc j) y x at = inr ((λ e. absurd (omega (arith, e))), at)
set_at (z ∷ xs) (suc i) zero y x at = inr ((λ e. absurd (omega (arith, e))), at)
set_at (z ∷ xs) (suc i) (suc j) y x at = elim (set_at xs i j y x at) [
  | inl here ↦ inl (ap suc here.0, here.1)
  | inr there ↦ inr ((λ e. there.0 (omega (arith, e))), there.1)
]

pub set_there : {T : Type 0} (xs : List T) (i : ℕ) (x y : T) → slice_get xs i ≡ Some x → slice_get (slice_set xs i y) i ≡ Some y
set_there [] i x y at = absurd (cc)
set_there (z ∷ xs) zero x y at = refl
set_there (z ∷ xs) (suc i) x y at = set_there xs i x y at

pub set_twice : {T : Type 0} (xs : List T) (i : ℕ) (x y : T) → slice_set (slice_set xs i x) i y ≡ slice_set xs i y
set_twice [] i x y = refl
set_twice (z ∷ xs) zero x y = refl
set_twice (z ∷ xs) (suc i) x y = ap (λ (l : List _). z ∷ l) (set_twice xs i x y)

pub set_same : {T : Type 0} (xs : List T) (i : ℕ) (x : T) → slice_get xs i ≡ Some x → slice_set xs i x ≡ xs
set_same [] i x at = refl
set_same (z ∷ xs) zero x at = ap (λ (y : _). y ∷ xs) (sym (same_Some z x at))
set_same (z ∷ xs) (suc i) x at = ap (λ (l : List _). z ∷ l) (set_same xs i x at)

pub set_length : {T : Type 0} (xs : List T) (i : ℕ) (x : T) → length (slice_set xs i x) ≡ length xs
set_length [] i x = refl
set_length (z ∷ xs) zero x = refl
set_length (z ∷ xs) (suc i) x = ap suc (set_length xs i x)

pub below_at : {T : Type 0} (xs : List T) (i : ℕ) (x : T) → slice_get xs i ≡ Some x → i < length xs
below_at [] i x at = absurd (cc)
below_at (z ∷ xs) zero x at = omega arith
below_at (z ∷ xs) (suc i) x at = let rest = below_at xs i x at in omega (arith, rest)

-- the slot at a place, as the holding there
pub held_at : (places : List Place) (slot : ℕ) (p : Place) → slice_get places slot ≡ Some p → slice_get (holdings places) slot ≡ Some (holding_of p)
held_at places slot p at = slice_get-map holding_of places slot ∙ ap (option_map holding_of) at

module _ {E : Type 0} where
  -- what a line asks of the slot at a place
  pub used_at : (places : List Place) (place slot : ℕ) (line : LineView E WriterView) → CanTellLine places place line → slot < length places →
      (p : Place) × (slice_get places slot ≡ Some p) × IsUsed p × (place < length (holding_of p).routes)
  used_at places place slot line can below = let p = some_at places slot below in (p.0, p.1, can.used slot p.0 p.1, can.routes slot p.0 p.1)

  pub note_mail : (places : List Place) (place slot : ℕ) (first line : LineView E WriterView) (note : Putter Order) → CanTellLine places place first → slot < length places →
      LineHears first line → ((p : Place) → slice_get places slot ≡ Some p → (lane : Lane ReaderView) × IsLaneAt (holding_of p).routes place lane × (note ≡ lane.pass)) →
      note.mail ≡ line.orders.mail
  note_mail places place slot first line note can below hears is =
      let p = some_at places slot below in
      let lane = is p.0 p.1 in
      ap (λ (x : Putter Order). x.mail) lane.2 ∙ (can.mails slot p.0 lane.0 p.1 lane.1 ∙ sym (ap (λ (l : LineView E WriterView). l.orders.mail) hears))

  pub hears_through : (a b c : LineView E WriterView) → LineHears a b → LineHears b c → LineHears a c
  hears_through a b c one two = two ∙ ap (λ (l : LineView E WriterView). record l { orders = record l.orders { told = c.orders.told } }) one

  pub hear_same : (lines : List (LineView E WriterView)) → LinesHear lines lines
  hear_same lines = record {
    count = refl;
    each = λ place line after stood stands. subst (LineHears line) (same_Some line after (sym stood ∙ stands)) (hears_none line);
  }

  -- one line more was told
  pub hear_set : (first lines : List (LineView E WriterView)) (i : ℕ) (line after : LineView E WriterView) → slice_get lines i ≡ Some line → LinesHear first lines →
      LineHears line after → LinesHear first (slice_set lines i after)
  hear_set first lines i line after at hear hears = record {
    count = set_length lines i after ∙ hear.count;
    each = λ place old new stood stands. elim (set_at lines i place after new stands) [
      | inl here ↦
          let old_at = subst (λ (n : ℕ). slice_get first n ≡ Some old) here.0 stood in
          subst (LineHears old) (sym here.1) (hears_through old line after (hear.each i old line old_at at) hears)
      | inr there ↦ hear.each place old new stood there.1
    ];
  }

  -- a line of a host can be told by the slots of that host
  pub can_tell : (places : List Place) (spares : List Place) (first lines : List (LineView E WriterView)) (place : ℕ) (line : LineView E WriterView) → AreTied places first →
      holdings spares ≡ holdings places → ((slot : ℕ) (p : Place) → slice_get spares slot ≡ Some p → IsUsed p) → LinesHear first lines → slice_get lines place ≡ Some line →
      CanTellLine spares place line
  can_tell places spares first lines place line tied same used hear at =
      let old = stood_at first lines place line hear.count at in
      let heard = hear.each place old.0 line old.1 at in
      let small = below_at first place old.0 old.1 in record {
        used = used;
        routes = λ slot p at_p.
            let lanes = tied.passes.lanes slot (holding_of p) (subst (λ (l : List (Holding ReaderView)). slice_get l slot ≡ Some (holding_of p)) same (held_at spares slot p at_p)) in
            omega (arith, lanes, small);
        mails = λ slot p lane at_p at_lane.
            let here = subst (λ (l : List (Holding ReaderView)). slice_get l slot ≡ Some (holding_of p)) same (held_at spares slot p at_p) in
            (tied.host.routes slot place (holding_of p) lane old.0 here at_lane old.1).1 ∙ sym (ap (λ (l : LineView E WriterView). l.orders.mail) heard);
      }

  -- the next line was told too
  pub lines_told_next : (slots : List (Holding ReaderView)) (lines : List (LineView E WriterView)) (upto : ℕ) (after : LineView E WriterView) →
      AreOrdersTold slots upto after →
      ((place : ℕ) (line : LineView E WriterView) → place < upto → slice_get lines place ≡ Some line → AreOrdersTold slots place line) →
      (place : ℕ) (line : LineView E WriterView) → place < upto + 1 → slice_get (slice_set lines upto after) place ≡ Some line → AreOrdersTold slots place line
  lines_told_next slots lines upto after told earlier place line below at = elim (set_at lines upto place after line at) [
    | inl here ↦
        subst (λ (n : ℕ). AreOrdersTold slots n line) (sym here.0) (subst (λ (l : LineView E WriterView). AreOrdersTold slots upto l) (sym here.1) told)
    | inr there ↦ let other = there.0 in earlier place line (omega (arith, below, other)) there.1
  ]

-- a place with another holding
over_with : (p : Place) (h k : Holding ReaderView) → with_holding (with_holding p h) k ≡ with_holding p k
over_with (Vacant v) h k = refl
over_with (Bound o got) h k = refl
over_with (Ended port e got) h k = refl
over_with (Spare s) h k = refl

holds_with : (p : Place) (h : Holding ReaderView) → holding_of (with_holding p h) ≡ h
holds_with (Vacant v) h = refl
holds_with (Bound o got) h = refl
holds_with (Ended port e got) h = refl
holds_with (Spare s) h = refl

with_own_holding : (p : Place) → p ≡ with_holding p (holding_of p)
with_own_holding (Vacant v) = refl
with_own_holding (Bound o got) = refl
with_own_holding (Ended port e got) = refl
with_own_holding (Spare s) = refl

used_with : (p : Place) (h : Holding ReaderView) → IsUsed p → IsUsed (with_holding p h)
used_with (Vacant v) h used = absurd used
used_with (Bound o got) h used = tt
used_with (Ended port e got) h used = tt
used_with (Spare s) h used = tt

pub used_hearing : (p q : Place) → PlaceHears p q → IsUsed p → IsUsed q
used_hearing p q hears used = subst IsUsed (sym hears.0) (used_with p (holding_of q) used)

pub place_hears_none : (p : Place) → PlaceHears p p
place_hears_none p = (with_own_holding p, refl)

-- a slot's holding once its mailbox was told of a note
abbrev pub heard : Holding ReaderView → Putter Datagram → Holding ReaderView
heard h note = record h { inbox = record h.inbox { get = after_note h.inbox.get note } }

pub heard_by : (q : Place) (note : Putter Datagram) → holding_of (told_by q note) ≡ heard (holding_of q) note
heard_by q note = holds_with q (heard (holding_of q) note)

pub place_hears_note : (p q : Place) (note : Putter Datagram) → PlaceHears p q → PlaceHears p (told_by q note)
place_hears_note p q note hears = (whole, held)
  where
    k : Holding ReaderView
    k = heard (holding_of q) note

    whole : told_by q note ≡ with_holding p (holding_of (told_by q note))
    whole =
        ap (λ (x : Place). with_holding x k) hears.0
        ∙ (over_with p (holding_of q) k ∙ ap (with_holding p) (sym (heard_by q note)))

    held : holding_of (told_by q note) ≡ record (holding_of p) { inbox = record (holding_of p).inbox { get = record (holding_of p).inbox.get { told = (holding_of (told_by q note)).inbox.get.told } } }
    held =
        subst (λ (x : Holding ReaderView). x ≡ record (holding_of p) { inbox = record (holding_of p).inbox { get = record (holding_of p).inbox.get { told = x.inbox.get.told } } })
        (sym (heard_by q note))
        (ap (λ (h : Holding ReaderView). record h { inbox = record h.inbox { get = record h.inbox.get { told = k.inbox.get.told } } }) hears.1)

module _ {E : Type 0} where
  -- a line has a mailbox of each slot
  pub box_there : (places : List Place) (lines : List (LineView E WriterView)) (slot place : ℕ) (p : Place) (line : LineView E WriterView) → AreTied places lines →
      slice_get places slot ≡ Some p → slice_get lines place ≡ Some line → slot < length line.boxes
  box_there places lines slot place p line tied at at_line =
      let held = tied.passes.held place line at_line in
      let small = below_at places slot p at in
      let count = length_map holding_of places in
      omega (arith, held, small, count)

  slot_is : (places : List Place) (lines : List (LineView E WriterView)) (slot : ℕ) (p : Place) → AreTied places lines → slice_get places slot ≡ Some p →
      (holding_of p).words.slot ≡ slot
  slot_is places lines slot p tied at = tied.passes.places slot (holding_of p) (held_at places slot p at)

  -- and its putter there is of the slot's mailbox
  pub box_mail : (places : List Place) (lines : List (LineView E WriterView)) (slot place : ℕ) (p q : Place) (line : LineView E WriterView) (note : Putter Datagram) →
      AreTied places lines → slice_get places slot ≡ Some p → slice_get lines place ≡ Some line → PlaceHears p q → IsBoxOf line.boxes slot note →
      note.mail ≡ (holding_of q).inbox.get.mail
  box_mail places lines slot place p q line note tied at at_line hears is =
      tied.host.boxes slot place (holding_of p) line note (held_at places slot p at) at_line
      (subst (λ (n : ℕ). IsBoxOf line.boxes n note) (sym (slot_is places lines slot p tied at)) is)
      ∙ sym (ap (λ (h : Holding ReaderView). h.inbox.get.mail) hears.1)

  pub none_told : (lines : List (LineView E WriterView)) (h : Holding ReaderView) → AreLinesToldTo 0 lines h
  none_told lines h place line box below at is = absurd (omega (arith, below))

  -- the slot was told of the next line too
  pub box_told_next : (places : List Place) (lines : List (LineView E WriterView)) (slot upto : ℕ) (p q : Place) (line : LineView E WriterView) (note : Putter Datagram) →
      AreTied places lines → slice_get places slot ≡ Some p → slice_get lines upto ≡ Some line → PlaceHears p q → IsBoxOf line.boxes slot note →
      AreLinesToldTo upto lines (holding_of q) → AreLinesToldTo (upto + 1) lines (holding_of (told_by q note))
  box_told_next places lines slot upto p q line note tied at at_line hears is told =
      subst (AreLinesToldTo (upto + 1) lines) (sym (heard_by q note)) (λ place other box below at_other is_box. elim (cases_eq place upto) [
        | inl same ↦
            let one : line ≡ other = same_Some line other (sym at_line ∙ subst (λ (n : ℕ). slice_get lines n ≡ Some other) same at_other) in
            let slot_of : (holding_of q).words.slot ≡ slot = ap (λ (h : Holding ReaderView). h.words.slot) hears.1 ∙ slot_is places lines slot p tied at in
            let is_here : IsBoxOf line.boxes slot box =
            subst (λ (l : LineView E WriterView). IsBoxOf l.boxes slot box) (sym one) (subst (λ (n : ℕ). IsBoxOf other.boxes n box) slot_of is_box) in
            told_last (holding_of q).inbox.get.told box note (same_Some box note (sym is_here ∙ is))
        | inr apart ↦
            told_more (holding_of q).inbox.get.told (account_of note ∷ []) box (told place other box (omega (arith, below, apart)) at_other is_box)
      ])

  -- so it was of all
  pub boxes_told_all : (lines : List (LineView E WriterView)) (upto : ℕ) (h : Holding ReaderView) → length lines ≤ upto → AreLinesToldTo upto lines h → AreBoxesTold h lines
  boxes_told_all lines upto h all told place line box at is = told place line box (let small = below_at lines place line at in omega (arith, all, small)) at is

place_hears_through : (a b c : Place) → PlaceHears a b → PlaceHears b c → PlaceHears a c
place_hears_through a b c one two = (
  two.0 ∙ (ap (λ (x : Place). with_holding x (holding_of c)) one.0 ∙ over_with a (holding_of b) (holding_of c)),
  two.1 ∙ ap (λ (h : Holding ReaderView). record h { inbox = record h.inbox { get = record h.inbox.get { told = (holding_of c).inbox.get.told } } }) one.1,
)

-- one slot more was told
pub places_hear_set : (first places : List Place) (i : ℕ) (p q : Place) → slice_get places i ≡ Some p → PlacesHear first places → PlaceHears p q →
    PlacesHear first (slice_set places i q)
places_hear_set first places i p q at hear hears = record {
  count = set_length places i q ∙ hear.count;
  each = λ slot old new stood stands. elim (set_at places i slot q new stands) [
    | inl here ↦
        let old_at = subst (λ (n : ℕ). slice_get first n ≡ Some old) here.0 stood in
        subst (PlaceHears old) (sym here.1) (place_hears_through old p q (hear.each i old p old_at at) hears)
    | inr there ↦ hear.each slot old new stood there.1
  ];
}

pub places_hear_same : (places : List Place) → PlacesHear places places
places_hear_same places = record {
  count = refl;
  each = λ slot p q stood stands. subst (PlaceHears p) (same_Some p q (sym stood ∙ stands)) (place_hears_none p);
}

module _ {E : Type 0} where
  -- the next slot was told too
  pub slots_told_next : (lines : List (LineView E WriterView)) (places : List Place) (upto : ℕ) (after : Place) → AreBoxesTold (holding_of after) lines →
      ((slot : ℕ) (p : Place) → slot < upto → slice_get places slot ≡ Some p → AreBoxesTold (holding_of p) lines) →
      (slot : ℕ) (p : Place) → slot < upto + 1 → slice_get (slice_set places upto after) slot ≡ Some p → AreBoxesTold (holding_of p) lines
  slots_told_next lines places upto after told earlier slot p below at = elim (set_at places upto slot after p at) [
    | inl here ↦ subst (λ (x : Place). AreBoxesTold (holding_of x) lines) (sym here.1) told
    | inr there ↦ let other = there.0 in earlier slot p (omega (arith, below, other)) there.1
  ]
