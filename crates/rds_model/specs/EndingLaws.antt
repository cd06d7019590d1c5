-- Laws, each proved: proofs in other crates use them. Nothing here has to be believed.
-- How a number ceases to be alive: a cancellation takes it back, or a frame that is read acknowledges it.
use Rattle.std.proofs.Common.{◌≡◌, ◌⊎◌, inl, inr, ℕ, ◌<◌, ◌≤◌, ◌&&◌, not, nat_lt, true, false, Option, Some, None, is_some, List, [], ◌∷◌, refl, arith}
use Rattle.std.proofs.lemmas.Bool.{cases_Bool, cases_lt, and_from, and_parts, and_cases, or_cases, or_left, or_right, ltb-false, false≢true, both_ways, not-false, not-true}
use Rattle.rds_wire.specs.declared.frame.Frame.{Frame}
use Rattle.rds_model.specs.declared.entry.Entry.{Entry}
use Rattle.rds_model.specs.declared.entry.Entry.TheVariants.{Cancel, Read}
use Rattle.rds_model.specs.declared.entry.Outcome.{Outcome}
use Rattle.rds_model.specs.declared.entry.Target.{Target}
use Rattle.rds_model.specs.Past.{Moment, now, before, Accepted, datagram, highest_ack}
use Rattle.rds_model.specs.Streams.{was_pulled}
use Rattle.rds_model.specs.Alive.{covers, is_cancelled, is_alive, was_taken_back, was_taken_back_unbegun}
use Rattle.rds_model.specs.NumberLaws.{acked_step}

-- what a cancellation covers was accepted
covers_known : (slot : ℕ) (target : Target) (d : Option Accepted) → covers slot target d ≡ true → is_some d ≡ true
covers_known slot target None covered = absurd (false≢true covered)
covers_known slot target (Some d) covered = refl

taken_step : (e : Entry) (past : List Entry) (n : ℕ) → was_taken_back past n ≡ true → was_taken_back (e ∷ past) n ≡ true
taken_step (Cancel slot target) past n was = or_right (is_alive past n && covers slot target (datagram past n)) _ was
taken_step _ past n was = was

pub taken_stays : {p j : List Entry} → Moment p j → (n : ℕ) → was_taken_back p n ≡ true → was_taken_back j n ≡ true
taken_stays now n was = was
taken_stays (before {e} {j} m) n was = taken_step e j n (taken_stays m n was)

-- it ended as a cancellation or by an acknowledgement
pub Ended : List Entry → ℕ → Type 0
Ended past n = (was_taken_back past n ≡ true) ⊎ (n ≤ highest_ack past)

ended_step : (e : Entry) (past : List Entry) (n : ℕ) → Ended past n → Ended (e ∷ past) n
unfolding Ended
ended_step e past n (inl taken) = inl (taken_step e past n taken)
ended_step e past n (inr enough) = inr (omega (arith, enough, acked_step e past))

not_alive : (past : List Entry) (n : ℕ) → is_some (datagram past n) ≡ true → is_alive past n ≡ false →
    (is_cancelled past n ≡ true → Ended past n) → Ended past n
unfolding Ended
not_alive past n known dead cancelled =
    elim (and_cases (is_some (datagram past n)) (not (is_cancelled past n) && nat_lt (highest_ack past) n) dead) [
      | inl unknown ↦ absurd (both_ways _ unknown known)
      | inr rest ↦
          elim (and_cases (not (is_cancelled past n)) (nat_lt (highest_ack past) n) rest) [
            | inl was ↦ cancelled (not-false (is_cancelled past n) was)
            | inr enough ↦ inr (ltb-false (highest_ack past) n enough)
          ]
    ]

cancelled_ended : (past : List Entry) (n : ℕ) → is_cancelled past n ≡ true → Ended past n
unfolding Ended
cancelled_ended [] n was = absurd (false≢true was)
cancelled_ended (Cancel slot target ∷ past) n was =
    elim (or_cases (covers slot target (datagram past n)) (is_cancelled past n) was) [
      | inl covered ↦
          elim (cases_Bool (is_alive past n)) [
            | inl alive ↦ inl (or_left _ (was_taken_back past n) (and_from (is_alive past n) _ alive covered))
            | inr dead ↦
                ended_step (Cancel slot target) past n
                (not_alive past n (covers_known slot target (datagram past n) covered) dead (cancelled_ended past n))
          ]
      | inr older ↦ ended_step (Cancel slot target) past n (cancelled_ended past n older)
    ]
cancelled_ended (e ∷ past) n was = ended_step e past n (cancelled_ended past n was)

-- a number that was accepted and isn't alive was taken back while it was, or is acknowledged
pub ended : (past : List Entry) (n : ℕ) → is_some (datagram past n) ≡ true → is_alive past n ≡ false →
    (was_taken_back past n ≡ true) ⊎ (n ≤ highest_ack past)
unfolding Ended
ended past n known dead = not_alive past n known dead (cancelled_ended past n)

-- the reading of a frame that acknowledges a number
pub record AcknowledgedAt (n : ℕ) (j : List Entry) : Type 0 where
  pub stream : ℕ
  pub frame : Frame
  pub outcome : Outcome
  pub past : List Entry
  pub at : Moment (Read stream frame outcome ∷ past) j
  pub enough : n ≤ frame.header.ack

acknowledged_before : (n : ℕ) (e : Entry) (past : List Entry) → AcknowledgedAt n past → AcknowledgedAt n (e ∷ past)
acknowledged_before n e past r =
    record { stream = r.stream; frame = r.frame; outcome = r.outcome; past = r.past; at = before r.at; enough = r.enough }

pub acknowledged_at : (n : ℕ) (j : List Entry) → 0 < n → n ≤ highest_ack j → AcknowledgedAt n j
acknowledged_at n [] above within = absurd (omega arith)
acknowledged_at n (Read stream frame outcome ∷ past) above within =
    elim (cases_lt frame.header.ack n) [
      | inl less ↦ acknowledged_before n (Read stream frame outcome) past (acknowledged_at n past above (omega arith))
      | inr enough ↦ record { stream = stream; frame = frame; outcome = outcome; past = past; at = now; enough = enough }
    ]
acknowledged_at n (x ∷ past) above within = acknowledged_before n x past (acknowledged_at n past above within)

-- the cancellation that took a number back before its first pull
pub record TakenUnbegun (n : ℕ) (j : List Entry) : Type 0 where
  pub slot : ℕ
  pub target : Target
  pub past : List Entry
  pub at : Moment (Cancel slot target ∷ past) j
  pub covered : covers slot target (datagram past n) ≡ true
  pub unpulled : was_pulled past n ≡ false

taken_before : (n : ℕ) (e : Entry) (past : List Entry) → TakenUnbegun n past → TakenUnbegun n (e ∷ past)
taken_before n e past t =
    record { slot = t.slot; target = t.target; past = t.past; at = before t.at; covered = t.covered; unpulled = t.unpulled }

pub taken_unbegun : (n : ℕ) (j : List Entry) → was_taken_back_unbegun j n ≡ true → TakenUnbegun n j
taken_unbegun n [] was = absurd (false≢true was)
taken_unbegun n (Cancel slot target ∷ past) was =
    elim (or_cases (is_alive past n && (covers slot target (datagram past n) && not (was_pulled past n))) (was_taken_back_unbegun past n) was) [
      | inl this ↦
          let rest = (and_parts (is_alive past n) _ this).1 in
          let both = and_parts (covers slot target (datagram past n)) (not (was_pulled past n)) rest in
          record { slot = slot; target = target; past = past; at = now; covered = both.0; unpulled = not-true (was_pulled past n) both.1 }
      | inr older ↦ taken_before n (Cancel slot target) past (taken_unbegun n past older)
    ]
taken_unbegun n (x ∷ past) was = taken_before n x past (taken_unbegun n past was)
