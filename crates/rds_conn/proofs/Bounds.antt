-- How the counts of a legal journal bound one another.
use Rattle.std.proofs.Common.{◌≡◌, inl, inr, ℕ, ◌≤◌, ◌&&◌, ◌==◌, max, true, is_some, List, [], ◌∷◌, length, ap, arith}
use Rattle.std.proofs.lemmas.Bool.{and_parts, and_from, or_right, or_left, or_cases, eq-eqb, cases_lt, eqb-true, cond_both, cases_Bool, cond-true, cond-false, cases_eq, false≢true}
use Rattle.rds_wire.specs.CauseLaws.{ack-cause}
use Rattle.rds_model.specs.declared.entry.Entry.{Entry}
use Rattle.rds_model.specs.declared.entry.Entry.TheVariants.{Accept, Pull, Read}
use Rattle.rds_model.specs.Past.{now, before, accepted, highest_ack, highest_pulled, number, is_datagram, carries_number}
use Rattle.rds_model.specs.Streams.{was_pulled, pulled_on}
use Rattle.rds_model.specs.Alive.{is_alive}
use Rattle.rds_model.specs.Legal.{IsLegal}
use Rattle.rds_model.specs.NumberLaws.{number_of_known, highest_grows, accepted_grows, alive_earlier}
use Rattle.rds_model.specs.LegalityLaws.{lawful_pull, lawful_read}
use Rattle.rds_model.specs.FrameLaws.{data_pull_of, number_of_pull}

-- each entry accepts one datagram at most
pub accepted_within : (past : List Entry) → accepted past ≤ length past
accepted_within [] = omega arith
accepted_within (Accept slot sport dport payload ∷ past) = omega (arith, accepted_within past)
accepted_within (_ ∷ past) = omega (arith, accepted_within past)

-- no frame that was read acknowledges a number that wasn't pulled
pub acked_within : (past : List Entry) → IsLegal past → highest_ack past ≤ highest_pulled past
acked_within [] legal = omega arith
acked_within (Read s f o ∷ past) legal =
    let sound = (lawful_read s f o legal now).sound in
    omega (arith, ack-cause f.header (highest_pulled past) 0 sound, acked_within past legal.1)
acked_within (e ∷ past) legal = omega (arith, acked_within past legal.1, highest_grows (before {e = e} {j = past} now))

-- a datagram that was pulled was accepted
pub highest_within : (past : List Entry) → IsLegal past → highest_pulled past ≤ accepted past
highest_within [] legal = omega arith
highest_within (Pull s f ∷ past) legal =
    let older = highest_within past legal.1 in
    cond_both (is_datagram f) (max (number f) (highest_pulled past)) (highest_pulled past) (λ x. x ≤ accepted past)
    (λ is.
    let pull = data_pull_of s past f (lawful_pull s f legal now) is in
    let within = number_of_known past pull.n (ap is_some pull.known) in
    let same = number_of_pull s past f pull in
    omega (arith, within, same, older))
    (λ _. older)
highest_within (e ∷ past) legal = omega (arith, highest_within past legal.1, accepted_grows (before {e = e} {j = past} now))

-- what was pulled on a stream was pulled
pub pulled_on-pulled : (s : ℕ) (past : List Entry) (n : ℕ) → pulled_on s past n ≡ true → was_pulled past n ≡ true
pulled_on-pulled s [] n on = on
pulled_on-pulled s (Pull stream f ∷ past) n on =
    elim (or_cases (stream == s && carries_number n f) (pulled_on s past n) on) [
      | inl here ↦ or_left (carries_number n f) (was_pulled past n) (and_parts (stream == s) (carries_number n f) here).1
      | inr there ↦ or_right (carries_number n f) (was_pulled past n) (pulled_on-pulled s past n there)
    ]
pulled_on-pulled s (_ ∷ past) n on = pulled_on-pulled s past n on

-- a number that was pulled isn't above the highest
pub pulled-highest : (past : List Entry) (n : ℕ) → was_pulled past n ≡ true → n ≤ highest_pulled past
pulled-highest [] n was = absurd (false≢true was)
pulled-highest (Pull stream f ∷ past) n was =
    elim (or_cases (carries_number n f) (was_pulled past n) was) [
      | inl here ↦
          let both = and_parts (is_datagram f) (number f == n) here in
          let same = eqb-true (number f) n both.1 in
          let value = cond-true (is_datagram f) (max (number f) (highest_pulled past)) (highest_pulled past) both.0 in
          omega (arith, same, value)
      | inr there ↦
          let older = pulled-highest past n there in
          let grows = highest_grows (before {e = Pull stream f} {j = past} now) in
          omega (arith, older, grows)
    ]
pulled-highest (_ ∷ past) n was = pulled-highest past n was

-- a number that is alive and not above the highest one was pulled, since smaller ones are pulled first
pub highest-pulled : (past : List Entry) → IsLegal past → (n : ℕ) → is_alive past n ≡ true → n ≤ highest_pulled past → was_pulled past n ≡ true
highest-pulled [] legal n alive within = absurd (false≢true alive)
highest-pulled (Pull s f ∷ past) legal n alive within =
    elim (cases_Bool (is_datagram f)) [
      | inl is ↦
          let pull = data_pull_of s past f (lawful_pull s f legal now) is in
          let same = number_of_pull s past f pull in
          elim (cases_eq (number f) n) [
            | inl e ↦ or_left (carries_number n f) (was_pulled past n) (and_from (is_datagram f) (number f == n) is (eq-eqb _ _ e))
            | inr ne ↦
                elim (cases_lt n (number f)) [
                  | inl lt ↦
                      or_right (carries_number n f) (was_pulled past n)
                      (pulled_on-pulled s past n (pull.least n (omega (arith, same, lt)) alive))
                  | inr ge ↦
                      let value = cond-true (is_datagram f) (max (number f) (highest_pulled past)) (highest_pulled past) is in
                      or_right (carries_number n f) (was_pulled past n)
                      (highest-pulled past legal.1 n alive (omega (arith, value, ge, ne)))
                ]
          ]
      | inr not_is ↦
          let value = cond-false (is_datagram f) (max (number f) (highest_pulled past)) (highest_pulled past) not_is in
          or_right (carries_number n f) (was_pulled past n) (highest-pulled past legal.1 n alive (omega (arith, value)))
    ]
highest-pulled (Accept slot sport dport payload ∷ past) legal n alive within =
    let bound = highest_within past legal.1 in
    highest-pulled past legal.1 n (alive_earlier (before {e = Accept slot sport dport payload} {j = past} now) n (omega (arith, bound)) alive) within
highest-pulled (e ∷ past) legal n alive within =
    let bound = highest_within past legal.1 in
    highest-pulled past legal.1 n (alive_earlier (before {e = e} {j = past} now) n (omega (arith, bound)) alive) within
