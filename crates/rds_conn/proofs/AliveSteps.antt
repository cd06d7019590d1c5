-- Which numbers are alive, and due on a stream, after each entry.
use Rattle.std.proofs.Common.{◌≡◌, inl, inr, ℕ, suc, ◌<◌, ◌≤◌, ◌&&◌, ◌||◌, ◌==◌, not, nat_lt, max, Bool, true, false, cond, Option, Some, None, is_some, List, [], ◌∷◌, ◌++◌, length, filter, refl, sym, ◌∙◌, ap, subst, arith}
use Rattle.std.proofs.lemmas.Bool.{and_from, not_from_false, lt-ltb, ne_eqb, eq-eqb, cond-true, cond-false, false_from_ne_true}
use Rattle.std.proofs.lemmas.List.Elements.{filter-append}
use Rattle.rds_wire.specs.declared.frame.Frame.{Frame}
use Rattle.rds_model.specs.declared.entry.Entry.{Entry}
use Rattle.rds_model.specs.declared.entry.Entry.TheVariants.{Accept, Cancel, Pull, Read}
use Rattle.rds_model.specs.declared.entry.Outcome.{Outcome}
use Rattle.rds_model.specs.declared.entry.Target.{Target}
use Rattle.rds_model.specs.Past.{Accepted, accepted, datagram, highest_ack, number, is_datagram, carries_number}
use Rattle.rds_model.specs.Streams.{pulled_on}
use Rattle.rds_model.specs.Alive.{is_cancelled, is_alive, covers, up_to, alive_numbers, due_numbers}
use Rattle.rds_model.specs.Legal.{IsLegal}
use Rattle.rds_model.specs.NumberLaws.{alive_from, number_of_known}
use Rattle.std.proofs.lemmas.Bool.{cases_lt, le-ltb}
use Rattle.std.proofs.Math.Bool.{and-false}
use Rattle.rds_conn.proofs.Filters.{filter_same_up_to, filter-filter, left_to_do, done_more, filter_true}
use Rattle.rds_conn.proofs.Rising.{Rises, rises_filter, rises_up_to, without_lower}
use Rattle.rds_conn.proofs.Bounds.{acked_within, highest_within, pulled_on-pulled, pulled-highest}

-- the newest number and the others
pub datagram_newest : (slot sport dport : ℕ) (payload : List ℕ) (past : List Entry) →
    datagram (Accept slot sport dport payload ∷ past) (suc (accepted past))
    ≡ Some (record { place = length past; slot = slot; sport = sport; dport = dport; payload = payload })
datagram_newest slot sport dport payload past =
    cond-true (suc (accepted past) == suc (accepted past)) _ (datagram past (suc (accepted past))) (eq-eqb (suc (accepted past)) (suc (accepted past)) refl)

pub datagram_other : (slot sport dport : ℕ) (payload : List ℕ) (past : List Entry) (n : ℕ) → n ≤ accepted past →
    datagram (Accept slot sport dport payload ∷ past) n ≡ datagram past n
datagram_other slot sport dport payload past n within =
    cond-false (n == suc (accepted past)) _ (datagram past n) (ne_eqb n (suc (accepted past)) (λ e. omega (arith, e)))

-- a number that wasn't accepted yet has no datagram, and nothing was done with it
pub unknown : (past : List Entry) (n : ℕ) → accepted past < n → datagram past n ≡ None
unknown past n above = go (datagram past n) refl
  where
    go : (o : Option Accepted) → datagram past n ≡ o → o ≡ None
    go None is = refl
    go (Some d) is = absurd (let known = number_of_known past n (ap is_some is) in omega (arith, known))

pub uncancelled : (past : List Entry) (n : ℕ) → accepted past < n → is_cancelled past n ≡ false
uncancelled [] n above = refl
uncancelled (Cancel slot target ∷ past) n above =
    ap (λ o. covers slot target o || is_cancelled past n) (unknown past n above) ∙ uncancelled past n above
uncancelled (Accept slot sport dport payload ∷ past) n above = uncancelled past n (omega arith)
uncancelled (_ ∷ past) n above = uncancelled past n above

pub unpulled_on : (s : ℕ) (past : List Entry) → IsLegal past → (n : ℕ) → accepted past < n → pulled_on s past n ≡ false
unpulled_on s past legal n above =
    false_from_ne_true (pulled_on s past n) (λ was.
    let within = pulled-highest past n (pulled_on-pulled s past n was) in
    let bound = highest_within past legal in
    omega (arith, within, bound))

-- the newest number is alive, and the others stay what they were
pub alive_newest : (slot sport dport : ℕ) (payload : List ℕ) (past : List Entry) → IsLegal past →
    is_alive (Accept slot sport dport payload ∷ past) (suc (accepted past)) ≡ true
alive_newest slot sport dport payload past legal =
    alive_from (Accept slot sport dport payload ∷ past) (suc (accepted past)) (record {
      known = ap is_some (datagram_newest slot sport dport payload past);
      kept = uncancelled past (suc (accepted past)) (omega arith);
      unacknowledged = omega (arith, acked_within past legal, highest_within past legal);
    })

pub alive_other : (slot sport dport : ℕ) (payload : List ℕ) (past : List Entry) (n : ℕ) → n ≤ accepted past →
    is_alive (Accept slot sport dport payload ∷ past) n ≡ is_alive past n
alive_other slot sport dport payload past n within =
    ap (λ o. is_some o && (not (is_cancelled past n) && nat_lt (highest_ack past) n)) (datagram_other slot sport dport payload past n within)

pub alive_after_accept : (slot sport dport : ℕ) (payload : List ℕ) (past : List Entry) → IsLegal past →
    alive_numbers (Accept slot sport dport payload ∷ past) ≡ alive_numbers past ++ suc (accepted past) ∷ []
alive_after_accept slot sport dport payload past legal =
    let e : Entry = Accept slot sport dport payload in
    let n : ℕ = suc (accepted past) in
    filter-append (is_alive (e ∷ past)) (up_to (accepted past)) (n ∷ [])
    ∙ ap (λ (xs : List ℕ). xs ++ filter (is_alive (e ∷ past)) (n ∷ []))
    (filter_same_up_to (is_alive (e ∷ past)) (is_alive past) (accepted past) (alive_other slot sport dport payload past))
    ∙ ap (λ b. alive_numbers past ++ cond b (n ∷ []) []) (alive_newest slot sport dport payload past legal)

pub due_after_accept : (s : ℕ) (slot sport dport : ℕ) (payload : List ℕ) (past : List Entry) → IsLegal past →
    due_numbers s (Accept slot sport dport payload ∷ past) ≡ due_numbers s past ++ suc (accepted past) ∷ []
due_after_accept s slot sport dport payload past legal =
    let e : Entry = Accept slot sport dport payload in
    let n : ℕ = suc (accepted past) in
    let test : ℕ → Bool = λ m. is_alive (e ∷ past) m && not (pulled_on s past m) in
    filter-append test (up_to (accepted past)) (n ∷ [])
    ∙ ap (λ (xs : List ℕ). xs ++ filter test (n ∷ []))
    (filter_same_up_to test (λ m. is_alive past m && not (pulled_on s past m)) (accepted past)
    (λ m within. ap (λ b. b && not (pulled_on s past m)) (alive_other slot sport dport payload past m within)))
    ∙ ap (λ b. due_numbers s past ++ cond b (n ∷ []) [])
    (and_from (is_alive (e ∷ past) n) (not (pulled_on s past n)) (alive_newest slot sport dport payload past legal)
    (not_from_false (pulled_on s past n) (unpulled_on s past legal n (omega arith))))

-- a cancellation leaves those that it doesn't cover
abbrev pub is_spared : List Entry → ℕ → Target → ℕ → Bool
is_spared past slot target n = not (covers slot target (datagram past n))

alive_and_spared : (known covered cancelled later : Bool) →
    known && (not (covered || cancelled) && later) ≡ (known && (not cancelled && later)) && not covered
alive_and_spared true true true later = refl
alive_and_spared true true false true = refl
alive_and_spared true true false false = refl
alive_and_spared true false true later = refl
alive_and_spared true false false true = refl
alive_and_spared true false false false = refl
alive_and_spared false covered cancelled later = refl

alive_cancel : (slot : ℕ) (target : Target) (past : List Entry) (n : ℕ) →
    is_alive (Cancel slot target ∷ past) n ≡ is_alive past n && is_spared past slot target n
alive_cancel slot target past n =
    alive_and_spared (is_some (datagram past n)) (covers slot target (datagram past n)) (is_cancelled past n) (nat_lt (highest_ack past) n)

pub alive_after_cancel : (slot : ℕ) (target : Target) (past : List Entry) →
    alive_numbers (Cancel slot target ∷ past) ≡ filter (is_spared past slot target) (alive_numbers past)
alive_after_cancel slot target past =
    filter_same_up_to (is_alive (Cancel slot target ∷ past)) (λ n. is_alive past n && is_spared past slot target n) (accepted past)
    (λ n within. alive_cancel slot target past n)
    ∙ sym (filter-filter (is_spared past slot target) (is_alive past) (up_to (accepted past)))

pub due_after_cancel : (s slot : ℕ) (target : Target) (past : List Entry) →
    due_numbers s (Cancel slot target ∷ past) ≡ filter (is_spared past slot target) (due_numbers s past)
due_after_cancel s slot target past =
    left_to_do (is_alive past) (is_alive (Cancel slot target ∷ past)) (pulled_on s past) (is_spared past slot target) (accepted past)
    (λ n within. alive_cancel slot target past n)

-- a frame that is read leaves those above its acknowledgement
above_both : (a b n : ℕ) → nat_lt (max a b) n ≡ nat_lt b n && nat_lt a n
above_both a b n =
    elim (cases_lt b n) [
      | inl b_less ↦
          elim (cases_lt a n) [
            | inl a_less ↦ lt-ltb (max a b) n (omega arith) ∙ sym (and_from (nat_lt b n) (nat_lt a n) (lt-ltb b n b_less) (lt-ltb a n a_less))
            | inr a_not ↦ le-ltb (max a b) n (omega arith) ∙ sym (ap (λ x. nat_lt b n && x) (le-ltb a n a_not) ∙ and-false (nat_lt b n))
          ]
      | inr b_not ↦ le-ltb (max a b) n (omega arith) ∙ sym (ap (λ x. x && nat_lt a n) (le-ltb b n b_not))
    ]

alive_and_above : (known kept above more : Bool) → known && (kept && (above && more)) ≡ (known && (kept && above)) && more
alive_and_above true true true more = refl
alive_and_above true true false more = refl
alive_and_above true false above more = refl
alive_and_above false kept above more = refl

alive_read : (s : ℕ) (f : Frame) (o : Outcome) (past : List Entry) (n : ℕ) →
    is_alive (Read s f o ∷ past) n ≡ is_alive past n && nat_lt f.header.ack n
alive_read s f o past n =
    ap (λ b. is_some (datagram past n) && (not (is_cancelled past n) && b)) (above_both f.header.ack (highest_ack past) n)
    ∙ alive_and_above (is_some (datagram past n)) (not (is_cancelled past n)) (nat_lt (highest_ack past) n) (nat_lt f.header.ack n)

pub alive_after_read : (s : ℕ) (f : Frame) (o : Outcome) (past : List Entry) →
    alive_numbers (Read s f o ∷ past) ≡ filter (nat_lt f.header.ack) (alive_numbers past)
alive_after_read s f o past =
    filter_same_up_to (is_alive (Read s f o ∷ past)) (λ n. is_alive past n && nat_lt f.header.ack n) (accepted past)
    (λ n within. alive_read s f o past n)
    ∙ sym (filter-filter (nat_lt f.header.ack) (is_alive past) (up_to (accepted past)))

pub due_after_read : (s stream : ℕ) (f : Frame) (o : Outcome) (past : List Entry) →
    due_numbers s (Read stream f o ∷ past) ≡ filter (nat_lt f.header.ack) (due_numbers s past)
due_after_read s stream f o past =
    left_to_do (is_alive past) (is_alive (Read stream f o ∷ past)) (pulled_on s past) (nat_lt f.header.ack) (accepted past)
    (λ n within. alive_read stream f o past n)

-- a frame that is pulled is due no longer
pub due_after_pull : (s : ℕ) (f : Frame) (past : List Entry) →
    due_numbers s (Pull s f ∷ past) ≡ filter (λ n. not (carries_number n f)) (due_numbers s past)
due_after_pull s f past =
    filter_same_up_to (λ n. is_alive past n && not (s == s && carries_number n f || pulled_on s past n))
    (λ n. is_alive past n && not (carries_number n f || pulled_on s past n)) (accepted past)
    (λ n within. ap (λ b. is_alive past n && not (b && carries_number n f || pulled_on s past n)) (eq-eqb s s refl))
    ∙ done_more (is_alive past) (pulled_on s past) (λ n. carries_number n f) (accepted past)

-- the numbers that are due, and those that are alive, rise
pub due_rises : (s : ℕ) (past : List Entry) → Rises 0 (due_numbers s past) (accepted past)
due_rises s past = rises_filter (λ n. is_alive past n && not (pulled_on s past n)) 0 (up_to (accepted past)) (accepted past) (rises_up_to (accepted past))

pub alive_rises : (past : List Entry) → Rises 0 (alive_numbers past) (accepted past)
alive_rises past = rises_filter (is_alive past) 0 (up_to (accepted past)) (accepted past) (rises_up_to (accepted past))

-- the first number that is due is pulled
pub due_after_first : (s : ℕ) (f : Frame) (past : List Entry) (n : ℕ) (rest : List ℕ) → is_datagram f ≡ true → number f ≡ n →
    due_numbers s past ≡ n ∷ rest → due_numbers s (Pull s f ∷ past) ≡ rest
due_after_first s f past n rest data_is same first =
    let rising = subst (λ (xs : List ℕ). Rises 0 xs (accepted past)) first (due_rises s past) in
    due_after_pull s f past
    ∙ ap (filter (λ m. not (carries_number m f))) first
    ∙ filter_test (λ b. λ m. not (b && (number f == m))) data_is
    ∙ filter_number same
    ∙ ap (λ b. cond (not b) (n ∷ filter (λ m. not (n == m)) rest) (filter (λ m. not (n == m)) rest)) (eq-eqb n n refl)
    ∙ without_lower n n rest (accepted past) (omega arith) rising.1
  where
    filter_test : (p : Bool → ℕ → Bool) {b c : Bool} → b ≡ c → filter (p b) (n ∷ rest) ≡ filter (p c) (n ∷ rest)
    filter_test p same = ap (λ b. filter (p b) (n ∷ rest)) same

    filter_number : {a b : ℕ} → a ≡ b → filter (λ m. not (true && (a == m))) (n ∷ rest) ≡ filter (λ m. not (b == m)) (n ∷ rest)
    filter_number same = ap (λ a. filter (λ m. not (a == m)) (n ∷ rest)) same

pub due_after_other : (s : ℕ) (f : Frame) (past : List Entry) → is_datagram f ≡ false → due_numbers s (Pull s f ∷ past) ≡ due_numbers s past
due_after_other s f past not_data =
    due_after_pull s f past
    ∙ ap (λ b. filter (λ m. not (b && (number f == m))) (due_numbers s past)) not_data
    ∙ filter_true (due_numbers s past)
