-- How many frames of each kind a legal journal pulls: acknowledgements by its datagrams and by what it read, and datagrams
-- by its streams and acceptances.
use Rattle.std.proofs.Common.{◌≡◌, inl, inr, ℕ, ◌+◌, ◌<◌, ◌≤◌, ◌==◌, ◌&&◌, ◌||◌, not, Bool, true, false, Option, Some, None, List, [], ◌∷◌, refl, sym, ◌∙◌, ap, arith}
use Rattle.std.proofs.lemmas.Bool.{and_left, and_right, or_cases, or_from, or_left, or_right, eq-eqb, ne_eqb, cond-true, cond-false, both_ways}
use Rattle.rds_wire.specs.declared.frame.Frame.{Frame}
use Rattle.rds_wire.specs.Kinds.{is_data}
use Rattle.rds_model.specs.declared.entry.Entry.{Entry}
use Rattle.rds_model.specs.declared.entry.Entry.TheVariants.{Accept, Cancel, Open, Pull, Read, Shut, Bad}
use Rattle.rds_model.specs.Past.{now, is_datagram, open_stream, newest_stream}
use Rattle.rds_model.specs.Owed.{asks, is_map, is_map_kind, wants_answer, is_asked, must_ask}
use Rattle.rds_model.specs.Legal.{IsLegal, IsLawfulPull}
use Rattle.rds_model.specs.LegalityLaws.{lawful_open, lawful_pull, lawful_read, lawful_shut, lawful_bad, open_is_newest}
use Rattle.rds_model.specs.FrameLaws.{map_asks_not, ack_asks, kind_of_map_pull, kind_of_data_pull}
use Rattle.rds_model.proofs.Counts.{bit, small_bit, bit_within, pulled, read}

-- what holds of the open stream, if one is open
abbrev of_open : (ℕ → List Entry → ℕ) → List Entry → Option ℕ → ℕ
of_open owes past None = 0
of_open owes past (Some s) = owes s past

-- on a stream that isn't opened yet nothing has to be asked, and nothing is
asks_nothing : (s : ℕ) (past : List Entry) → IsLegal past → newest_stream past < s → must_ask s past ≡ false
asks_nothing s [] legal newer = refl
asks_nothing s (Open y ∷ past) legal newer = asks_nothing s past legal.1 (omega (arith, newer, (lawful_open y past legal).1))
asks_nothing s (Pull y f ∷ past) legal newer =
    let is = open_is_newest past legal.1 y (lawful_pull y f legal now).on in
    cond-false (y == s) (not (asks f) && (is_datagram f || must_ask s past)) (must_ask s past) (ne_eqb y s (λ e. omega (arith, is, newer)))
    ∙ asks_nothing s past legal.1 newer
asks_nothing s (_ ∷ past) legal newer = asks_nothing s past legal.1 newer

asked_nothing : (s : ℕ) (past : List Entry) → IsLegal past → newest_stream past < s → is_asked s past ≡ false
asked_nothing s [] legal newer = refl
asked_nothing s (Open y ∷ past) legal newer = asked_nothing s past legal.1 (omega (arith, newer, (lawful_open y past legal).1))
asked_nothing s (Pull y f ∷ past) legal newer =
    let older = asked_nothing s past legal.1 newer in
    and_right (not (y == s)) (is_asked s past) older
asked_nothing s (Read y f o ∷ past) legal newer =
    let is = open_is_newest past legal.1 y (lawful_read y f o legal now).on in
    let older = asked_nothing s past legal.1 newer in
    or_from (y == s && wants_answer f) (is_asked s past) (and_left (y == s) (wants_answer f) (ne_eqb y s (λ e. omega (arith, is, newer)))) older
asked_nothing s (_ ∷ past) legal newer = asked_nothing s past legal.1 newer

-- a frame that asks is a datagram, or a datagram went unasked
asks_for : (s : ℕ) (past : List Entry) (f : Frame) → IsLawfulPull s past f → asks f ≡ true → (is_datagram f || must_ask s past) ≡ true
asks_for s past f lawful asking =
    elim lawful.owed [
      | inl pull ↦ absurd (both_ways _ (ap asks pull.is ∙ map_asks_not past f.payload) asking)
      | inr (inl pull) ↦ or_left (is_datagram f) (must_ask s past) (ap is_data (kind_of_data_pull s past f pull))
      | inr (inr pull) ↦
          or_right (is_datagram f) (must_ask s past) (sym (ap asks pull.is ∙ ack_asks past (must_ask s past)) ∙ asking)
    ]

asking_bits : (a d m : Bool) → (a ≡ true → (d || m) ≡ true) → bit a + bit (not a && (d || m)) ≤ bit d + bit m
asking_bits true true m for = omega (arith, small_bit m)
asking_bits true false true for = omega arith
asking_bits true false false for = absurd (both_ways false refl (for refl))
asking_bits false true m for = omega (arith, small_bit m)
asking_bits false false m for = omega arith

asking_step : (s : ℕ) (f : Frame) (past : List Entry) → IsLawfulPull s past f →
    bit (asks f) + bit (must_ask s (Pull s f ∷ past)) ≤ bit (is_datagram f) + bit (must_ask s past)
asking_step s f past lawful =
    let here = cond-true (s == s) (not (asks f) && (is_datagram f || must_ask s past)) (must_ask s past) (eq-eqb s s refl) in
    omega (arith, ap bit here, asking_bits (asks f) (is_datagram f) (must_ask s past) (asks_for s past f lawful))

-- Frames that ask are no more than datagrams, since one asks only for datagrams that went before it unasked.
asking_is_few : (past : List Entry) → IsLegal past → (o : Option ℕ) → open_stream past ≡ o →
    pulled asks past + of_open (λ s p. bit (must_ask s p)) past o ≤ pulled is_datagram past
asking_is_few [] legal None is = omega arith
asking_is_few [] legal (Some s) is = cc
asking_is_few (Open y ∷ past) legal None is = cc
asking_is_few (Open y ∷ past) legal (Some s) is =
    let lawful = lawful_open y past legal in
    let same : y ≡ s = cc in
    omega (arith, asking_is_few past legal.1 None lawful.0, ap bit (asks_nothing s past legal.1 (omega (arith, lawful.1, same))))
asking_is_few (Shut y ∷ past) legal None is = omega (arith, asking_is_few past legal.1 (Some y) (lawful_shut y past legal))
asking_is_few (Shut y ∷ past) legal (Some s) is = cc
asking_is_few (Bad y h found ∷ past) legal None is = omega (arith, asking_is_few past legal.1 (Some y) (lawful_bad y h found legal now).on)
asking_is_few (Bad y h found ∷ past) legal (Some s) is = cc
asking_is_few (Pull y f ∷ past) legal None is = let lawful = lawful_pull y f legal now in let on = lawful.on in cc
asking_is_few (Pull y f ∷ past) legal (Some s) is =
    let lawful = lawful_pull y f legal now in
    let on = lawful.on in
    let same : y ≡ s = cc in
    omega (
      arith,
      asking_is_few past legal.1 (Some y) on,
      asking_step y f past lawful,
      ap (λ n. bit (must_ask n (Pull y f ∷ past))) same,
    )
asking_is_few (Accept slot sport dport payload ∷ past) legal o is = omega (arith, asking_is_few past legal.1 o is)
asking_is_few (Cancel slot target ∷ past) legal o is = omega (arith, asking_is_few past legal.1 o is)
asking_is_few (Read y f outcome ∷ past) legal o is = omega (arith, asking_is_few past legal.1 o is)

pub few_asking : (past : List Entry) → IsLegal past → pulled asks past ≤ pulled is_datagram past
few_asking past legal = omega (arith, asking_is_few past legal (open_stream past) refl)

-- the frame is a plain acknowledgement: no map, no datagram, and asks for nothing
abbrev pub is_plain : Frame → Bool
is_plain f = not (asks f) && not (is_map f || is_datagram f)

plain_parts : (a m d : Bool) → (not a && not (m || d)) ≡ true → (a ≡ false) × ((m ≡ false) × (d ≡ false))
plain_parts true m d plain = absurd (both_ways false refl plain)
plain_parts false true d plain = absurd (both_ways false refl plain)
plain_parts false false true plain = absurd (both_ways false refl plain)
plain_parts false false false plain = (refl, (refl, refl))

-- one is pulled only where it is asked for
plain_was_asked : (s : ℕ) (past : List Entry) (f : Frame) → IsLawfulPull s past f → is_plain f ≡ true → is_asked s past ≡ true
plain_was_asked s past f lawful plain =
    let parts = plain_parts (asks f) (is_map f) (is_datagram f) plain in
    elim lawful.owed [
      | inl pull ↦ absurd (both_ways _ parts.1.0 (ap is_map_kind (kind_of_map_pull s past f pull)))
      | inr (inl pull) ↦ absurd (both_ways _ parts.1.1 (ap is_data (kind_of_data_pull s past f pull)))
      | inr (inr pull) ↦
          let quiet : must_ask s past ≡ false = sym (ap asks pull.is ∙ ack_asks past (must_ask s past)) ∙ parts.0 in
          elim (or_cases (is_asked s past) (must_ask s past) pull.asked) [
            | inl asked ↦ asked
            | inr must ↦ absurd (both_ways _ quiet must)
          ]
    ]

plain_step : (s : ℕ) (f : Frame) (past : List Entry) → IsLawfulPull s past f →
    bit (is_plain f) + bit (is_asked s (Pull s f ∷ past)) ≤ bit (is_asked s past)
plain_step s f past lawful =
    let cleared : bit (is_asked s (Pull s f ∷ past)) ≡ 0 = ap (λ b. bit (not b && is_asked s past)) (eq-eqb s s refl) in
    omega (arith, cleared, bit_within (is_plain f) (is_asked s past) (plain_was_asked s past f lawful))

asked_bits : (x w r : Bool) → bit (x && w || r) ≤ bit w + bit r
asked_bits true true r = omega (arith, small_bit r)
asked_bits true false r = omega arith
asked_bits false true r = omega arith
asked_bits false false r = omega arith

-- Plain acknowledgements are no more than the readings that wanted an answer.
plain_is_few : (past : List Entry) → IsLegal past → (o : Option ℕ) → open_stream past ≡ o →
    pulled is_plain past + of_open (λ s p. bit (is_asked s p)) past o ≤ read wants_answer past
plain_is_few [] legal None is = omega arith
plain_is_few [] legal (Some s) is = cc
plain_is_few (Open y ∷ past) legal None is = cc
plain_is_few (Open y ∷ past) legal (Some s) is =
    let lawful = lawful_open y past legal in
    let same : y ≡ s = cc in
    omega (arith, plain_is_few past legal.1 None lawful.0, ap bit (asked_nothing s past legal.1 (omega (arith, lawful.1, same))))
plain_is_few (Shut y ∷ past) legal None is = omega (arith, plain_is_few past legal.1 (Some y) (lawful_shut y past legal))
plain_is_few (Shut y ∷ past) legal (Some s) is = cc
plain_is_few (Bad y h found ∷ past) legal None is = omega (arith, plain_is_few past legal.1 (Some y) (lawful_bad y h found legal now).on)
plain_is_few (Bad y h found ∷ past) legal (Some s) is = cc
plain_is_few (Pull y f ∷ past) legal None is = let lawful = lawful_pull y f legal now in let on = lawful.on in cc
plain_is_few (Pull y f ∷ past) legal (Some s) is =
    let lawful = lawful_pull y f legal now in
    let on = lawful.on in
    let same : y ≡ s = cc in
    omega (
      arith,
      plain_is_few past legal.1 (Some y) on,
      plain_step y f past lawful,
      ap (λ n. bit (is_asked n (Pull y f ∷ past))) same,
    )
plain_is_few (Accept slot sport dport payload ∷ past) legal o is = omega (arith, plain_is_few past legal.1 o is)
plain_is_few (Cancel slot target ∷ past) legal o is = omega (arith, plain_is_few past legal.1 o is)
plain_is_few (Read y f outcome ∷ past) legal None is = omega (arith, plain_is_few past legal.1 None is)
plain_is_few (Read y f outcome ∷ past) legal (Some s) is =
    omega (arith, plain_is_few past legal.1 (Some s) is, asked_bits (y == s) (wants_answer f) (is_asked s past))

pub few_plain : (past : List Entry) → IsLegal past → pulled is_plain past ≤ read wants_answer past
few_plain past legal = omega (arith, plain_is_few past legal (open_stream past) refl)

-- each pull is of a map, a datagram, a frame that asks, or a plain acknowledgement
kinds_bits : (m d a : Bool) → 1 ≤ bit m + bit d + bit a + bit (not a && not (m || d))
kinds_bits m d true = omega arith
kinds_bits true d false = omega arith
kinds_bits false true false = omega arith
kinds_bits false false false = omega arith

pub by_kinds : (past : List Entry) → pulled (λ f. true) past ≤ pulled is_map past + pulled is_datagram past + pulled asks past + pulled is_plain past
by_kinds [] = omega arith
by_kinds (Pull s f ∷ past) = omega (arith, kinds_bits (is_map f) (is_datagram f) (asks f), by_kinds past)
by_kinds (_ ∷ past) = omega (arith, by_kinds past)
