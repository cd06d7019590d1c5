-- A lawful frame has no fault.
use Rattle.std.proofs.Common.{◌≡◌, inl, inr, ℕ, ◌<◌, ◌≤◌, ◌^◌, ◌==◌, ◌&&◌, ◌||◌, not, nat_le, Bool, true, false, cond, Option, None, is_some, List, length, refl, sym, ◌∙◌, ap, arith}
use Rattle.std.proofs.lemmas.Bool.{eq-eqb, ne_eqb, le-ltb, lt-leb, or_from, and_right, cond-false, not_from_true}
use Rattle.rds_wire.specs.declared.frame.Frame.{Frame}
use Rattle.rds_wire.specs.declared.header.Header.{Header}
use Rattle.rds_wire.specs.declared.header.TheConstants.{CONG_BITMAP, ACK_REQUIRED}
use Rattle.rds_wire.specs.declared.kind.Malformed.{Malformed}
use Rattle.rds_wire.specs.declared.kind.TheConstants.{MAP_LENGTH, MAX_LENGTH}
use Rattle.rds_wire.specs.Bytes.{computed}
use Rattle.rds_wire.specs.Generations.{generation}
use Rattle.rds_wire.specs.Kinds.{cause, kind_of, is_data}
use Rattle.rds_model.specs.declared.entry.Entry.{Entry}
use Rattle.rds_model.specs.Past.{number, last_passed}
use Rattle.rds_model.specs.Owed.{header_of, map_frame, ack_frame, data_frame, data_flags, flag_if, must_ask}
use Rattle.rds_model.specs.Legal.{IsLegal, IsLawfulPull}
use Rattle.rds_model.specs.NumberLaws.{number_of_known}
use Rattle.rds_model.specs.FrameLaws.{len_of_header, pull_acknowledges, data_pull_of, number_of_pull}
use Rattle.rds_model.specs.BoundLaws.{few_accepted, datagram_fits}

none_of_five : (a b c d e : Bool) (v w x y z : Option Malformed) → a ≡ false → b ≡ false → c ≡ false → d ≡ false → e ≡ false →
    cond a v (cond b w (cond c x (cond d y (cond e z None)))) ≡ None
none_of_five a b c d e v w x y z no_a no_b no_c no_d no_e =
    cond-false a v (cond b w (cond c x (cond d y (cond e z None)))) no_a ∙ cond-false b w (cond c x (cond d y (cond e z None))) no_b
    ∙ cond-false c x (cond d y (cond e z None)) no_c ∙ cond-false d y (cond e z None) no_d ∙ cond-false e z None no_e

-- a header that is sealed, short, of no earlier generation, and with a number and an acknowledgement in their ranges has
-- no fault
pub no_fault : (h : Header) (m g : ℕ) → h.csum ≡ computed h → h.len ≤ MAX_LENGTH →
    (is_data (kind_of h) ≡ true → (0 < h.sequence) × (h.sequence < 2 ^ 63)) → h.ack ≤ m → g ≤ generation h → cause h m g ≡ None
unfolding cause
no_fault h m g summed short ranged known late =
    let sum = and_right (not (h.csum == 0)) (not (h.csum == computed h)) (not_from_true (h.csum == computed h) (eq-eqb h.csum (computed h) summed)) in
    let length = le-ltb MAX_LENGTH h.len short in
    let ack = le-ltb m h.ack known in
    let earlier = le-ltb (generation h) g late in
    none_of_five _ _ _ _ _ _ _ _ _ _ sum length (sequence (is_data (kind_of h)) refl) ack earlier
  where
    sequence : (b : Bool) → is_data (kind_of h) ≡ b → (b && (h.sequence == 0 || nat_le (2 ^ 63) h.sequence)) ≡ false
    sequence false not_data = refl
    sequence true is =
        let range = ranged is in
        or_from (h.sequence == 0) (nat_le (2 ^ 63) h.sequence) (ne_eqb h.sequence 0 (λ e. omega (arith, range))) (lt-leb (2 ^ 63) h.sequence range.1)

-- a lawful frame is sealed and short
sealed_header : (past : List Entry) (number len sport dport flags : ℕ) →
    (header_of past number len sport dport flags).csum ≡ computed (header_of past number len sport dport flags)
unfolding header_of computed
sealed_header past number len sport dport flags = refl

sealed_pull : (s : ℕ) (past : List Entry) (f : Frame) → IsLawfulPull s past f → f.header.csum ≡ computed f.header
sealed_pull s past f lawful =
    let seal = λ (g : Frame) (is : f ≡ g) (sealed : g.header.csum ≡ computed g.header).
    ap (λ (x : Frame). x.header.csum) is ∙ sealed ∙ ap (λ (x : Frame). computed x.header) (sym is) in
    elim lawful.owed [
      | inl map ↦ seal (map_frame past f.payload) map.is (sealed_header past 0 MAP_LENGTH 0 0 CONG_BITMAP)
      | inr (inl pull) ↦
          let d = pull.d in
          seal (data_frame s past pull.n d) pull.is
          (sealed_header past pull.n (length d.payload) d.sport d.dport (data_flags s past pull.n d))
      | inr (inr ack) ↦
          seal (ack_frame past (must_ask s past)) ack.is (sealed_header past 0 0 0 0 (flag_if (must_ask s past) ACK_REQUIRED))
    ]

short_pull : (s : ℕ) (past : List Entry) (f : Frame) → IsLegal past → IsLawfulPull s past f → f.header.len ≤ MAX_LENGTH
short_pull s past f legal lawful =
    let len = λ (g : Frame) (is : f ≡ g). ap (λ (x : Frame). x.header.len) is in
    elim lawful.owed [
      | inl map ↦ omega (arith, len (map_frame past f.payload) map.is, len_of_header past 0 MAP_LENGTH 0 0 CONG_BITMAP)
      | inr (inl pull) ↦
          let d = pull.d in
          omega (
            arith,
            len (data_frame s past pull.n d) pull.is,
            len_of_header past pull.n (length d.payload) d.sport d.dport (data_flags s past pull.n d),
            (datagram_fits past pull.n d legal pull.known).short,
          )
      | inr (inr ack) ↦
          omega (arith, len (ack_frame past (must_ask s past)) ack.is, len_of_header past 0 0 0 0 (flag_if (must_ask s past) ACK_REQUIRED))
    ]

-- a lawful frame has no fault for a reader that has pulled what it acknowledges
pub lawful_frame_is_sound : (s : ℕ) (past : List Entry) (f : Frame) (m : ℕ) → IsLegal past → IsLawfulPull s past f → last_passed past ≤ m →
    cause f.header m 0 ≡ None
lawful_frame_is_sound s past f m legal lawful known =
    let acknowledges = pull_acknowledges s past f lawful in
    no_fault f.header m 0 (sealed_pull s past f lawful) (short_pull s past f legal lawful)
    (λ is.
    let pull = data_pull_of s past f lawful is in
    let number_is = number_of_pull s past f pull in
    let range = number_of_known past pull.n (ap is_some pull.known) in
    (omega (arith, number_is, range), omega (arith, number_is, range, few_accepted past legal)))
    (omega (arith, acknowledges, known)) (omega arith)
