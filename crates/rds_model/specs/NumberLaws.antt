-- Laws, each proved: proofs in other crates use them. Nothing here has to be believed.
-- The numbers of datagrams, and what stays true of them from one moment to a later one.
use Rattle.std.proofs.Common.{◌≡◌, inl, inr, ℕ, suc, ◌<◌, ◌≤◌, ◌==◌, not, max, true, false, Some, is_some, List, [], ◌∷◌, length, sym, ◌∙◌, ap, arith}
use Rattle.std.proofs.lemmas.Bool.{and_parts, and_from, or_right, not-true, not_from_false, ltb-true, lt-ltb, ne_eqb, eq-eqb, cond_both, cond-true, cond-false, cases_eq, false≢true, false_from_ne_true, both_ways}
use Rattle.rds_wire.specs.declared.frame.Frame.{Frame}
use Rattle.rds_model.specs.declared.entry.Entry.{Entry}
use Rattle.rds_model.specs.declared.entry.Entry.TheVariants.{Accept, Cancel, Pull, Read}
use Rattle.rds_model.specs.declared.entry.Outcome.{Outcome}
use Rattle.rds_model.specs.Past.{Moment, now, before, Accepted, accepted, datagram, highest_ack, highest_pulled, number, is_datagram}
use Rattle.rds_model.specs.Alive.{is_cancelled, is_alive}

accepted_step : (e : Entry) (past : List Entry) → accepted past ≤ accepted (e ∷ past)
accepted_step (Accept slot sport dport payload) past = omega arith
accepted_step _ past = omega arith

pub accepted_grows : {p j : List Entry} → Moment p j → accepted p ≤ accepted j
accepted_grows now = omega arith
accepted_grows (before {e} {j} m) = omega (arith, accepted_step e j, accepted_grows m)

pub acked_step : (e : Entry) (past : List Entry) → highest_ack past ≤ highest_ack (e ∷ past)
acked_step (Read stream frame outcome) past = omega arith
acked_step _ past = omega arith

pub acked_grows : {p j : List Entry} → Moment p j → highest_ack p ≤ highest_ack j
acked_grows now = omega arith
acked_grows (before {e} {j} m) = omega (arith, acked_step e j, acked_grows m)

-- the reading of a frame counts its acknowledgement
pub acknowledges_itself : (s : ℕ) (f : Frame) (o : Outcome) (p : List Entry) → f.header.ack ≤ highest_ack (Read s f o ∷ p)
acknowledges_itself s f o p = omega arith

highest_step : (e : Entry) (past : List Entry) → highest_pulled past ≤ highest_pulled (e ∷ past)
highest_step (Pull stream frame) past =
    cond_both (is_datagram frame) (max (number frame) (highest_pulled past)) (highest_pulled past) (λ x. highest_pulled past ≤ x)
    (λ _. omega arith) (λ _. omega arith)
highest_step _ past = omega arith

pub highest_grows : {p j : List Entry} → Moment p j → highest_pulled p ≤ highest_pulled j
highest_grows now = omega arith
highest_grows (before {e} {j} m) = omega (arith, highest_step e j, highest_grows m)

-- the entry of the newest number, and the others
pub datagram_newest : (slot sport dport : ℕ) (payload : List ℕ) (past : List Entry) (n : ℕ) → n ≡ suc (accepted past) →
    datagram (Accept slot sport dport payload ∷ past) n
    ≡ Some (record { place = length past; slot = slot; sport = sport; dport = dport; payload = payload })
datagram_newest slot sport dport payload past n e = cond-true (n == suc (accepted past)) _ (datagram past n) (eq-eqb _ _ e)

pub datagram_other : (slot sport dport : ℕ) (payload : List ℕ) (past : List Entry) (n : ℕ) → (n ≡ suc (accepted past) → ⊥) →
    datagram (Accept slot sport dport payload ∷ past) n ≡ datagram past n
datagram_other slot sport dport payload past n ne = cond-false (n == suc (accepted past)) _ (datagram past n) (ne_eqb _ _ ne)

-- the datagrams that were accepted have the numbers from 1 to their count
pub number_of_known : (past : List Entry) (n : ℕ) → is_some (datagram past n) ≡ true → (0 < n) × (n ≤ accepted past)
number_of_known [] n known = absurd (false≢true known)
number_of_known (Accept slot sport dport payload ∷ past) n known =
    elim (cases_eq n (suc (accepted past))) [
      | inl e ↦ omega arith
      | inr ne ↦
          omega (arith, number_of_known past n (sym (ap is_some (datagram_other slot sport dport payload past n ne)) ∙ known))
    ]
number_of_known (_ ∷ past) n known = number_of_known past n known

pub known_of_number : (past : List Entry) (n : ℕ) → 0 < n → n ≤ accepted past → is_some (datagram past n) ≡ true
known_of_number [] n above within = absurd (omega arith)
known_of_number (Accept slot sport dport payload ∷ past) n above within =
    elim (cases_eq n (suc (accepted past))) [
      | inl e ↦ ap is_some (datagram_newest slot sport dport payload past n e)
      | inr ne ↦ ap is_some (datagram_other slot sport dport payload past n ne) ∙ known_of_number past n above (omega arith)
    ]
known_of_number (_ ∷ past) n above within = known_of_number past n above within

-- a datagram stays what it was
datagram_step : (e : Entry) (past : List Entry) (n : ℕ) (d : Accepted) → datagram past n ≡ Some d → datagram (e ∷ past) n ≡ Some d
datagram_step (Accept slot sport dport payload) past n d known =
    let number = number_of_known past n (ap is_some known) in
    datagram_other slot sport dport payload past n (λ e. omega (arith, number)) ∙ known
datagram_step _ past n d known = known

pub datagram_stays : {p j : List Entry} → Moment p j → (n : ℕ) (d : Accepted) → datagram p n ≡ Some d → datagram j n ≡ Some d
datagram_stays now n d known = known
datagram_stays (before {e} {j} m) n d known = datagram_step e j n d (datagram_stays m n d known)

-- a cancelled number stays cancelled
cancelled_step : (e : Entry) (past : List Entry) (n : ℕ) → is_cancelled past n ≡ true → is_cancelled (e ∷ past) n ≡ true
cancelled_step (Cancel slot target) past n was = or_right _ _ was
cancelled_step _ past n was = was

pub cancelled_stays : {p j : List Entry} → Moment p j → (n : ℕ) → is_cancelled p n ≡ true → is_cancelled j n ≡ true
cancelled_stays now n was = was
cancelled_stays (before {e} {j} m) n was = cancelled_step e j n (cancelled_stays m n was)

-- what it takes to be alive
pub record Alive (past : List Entry) (n : ℕ) : Type 0 where
  pub known : is_some (datagram past n) ≡ true
  pub kept : is_cancelled past n ≡ false
  pub unacknowledged : highest_ack past < n

pub alive_parts : (past : List Entry) (n : ℕ) → is_alive past n ≡ true → Alive past n
alive_parts past n alive =
    let both = and_parts (is_some (datagram past n)) _ alive in
    let rest = and_parts (not (is_cancelled past n)) _ both.1 in
    record { known = both.0; kept = not-true _ rest.0; unacknowledged = ltb-true _ _ rest.1 }

pub alive_from : (past : List Entry) (n : ℕ) → Alive past n → is_alive past n ≡ true
alive_from past n alive =
    and_from (is_some (datagram past n)) _ alive.known
    (and_from (not (is_cancelled past n)) _ (not_from_false _ alive.kept) (lt-ltb _ _ alive.unacknowledged))

-- a number that is alive was alive at each moment since it was accepted
pub alive_earlier : {p j : List Entry} → Moment p j → (n : ℕ) → n ≤ accepted p → is_alive j n ≡ true → is_alive p n ≡ true
alive_earlier {p} {j} m n within alive =
    let now_alive = alive_parts j n alive in
    let number = number_of_known j n now_alive.known in
    alive_from p n (record {
      known = known_of_number p n number.0 within;
      kept = false_from_ne_true _ (λ was. both_ways _ now_alive.kept (cancelled_stays m n was));
      unacknowledged = omega (arith, now_alive.unacknowledged, acked_grows m);
    })
