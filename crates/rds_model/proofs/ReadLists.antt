-- The numbers of a port pair that were read with some outcome, and the moments of their reading.
use Rattle.std.proofs.Common.{◌≡◌, inl, inr, ℕ, ◌<◌, ◌≤◌, ◌&&◌, Bool, true, false, List, [], ◌∷◌, ◌++◌, sym, subst, arith}
use Rattle.std.specs.List.{Contains, All}
use Rattle.std.specs.List.Sorted.{IsStrictlyIncreasing}
use Rattle.std.proofs.lemmas.Bool.{cases_Bool, and_parts, and_from, cond-true, cond-false}
use Rattle.std.proofs.lemmas.List.Elements.{All-nil, All-push, All-weaker, Contains-push, Contains-append_left, Contains-push_cases}
use Rattle.rds_wire.specs.declared.frame.Frame.{Frame}
use Rattle.rds_model.specs.declared.entry.Entry.{Entry}
use Rattle.rds_model.specs.declared.entry.Entry.TheVariants.{Read}
use Rattle.rds_model.specs.declared.entry.Outcome.{Outcome}
use Rattle.rds_model.specs.Past.{Moment, now, before, number, passes, last_passed}
use Rattle.rds_model.specs.Pairs.{is_between, read_with}
use Rattle.rds_model.proofs.Moments.{past_of}
use Rattle.rds_model.proofs.Matching.{ArePeers}
use Rattle.rds_model.proofs.Rise.{rise, last_passed_grows}
use Rattle.rds_model.proofs.NumberLists.{rising_more, in_nothing}

-- the reading of a number in a list of the pair
pub record ReadFor (such : Outcome → Bool) (sport dport n : ℕ) (j : List Entry) : Type 0 where
  pub stream : ℕ
  pub frame : Frame
  pub outcome : Outcome
  pub past : List Entry
  pub at : Moment (Read stream frame outcome ∷ past) j
  pub is_such : such outcome ≡ true
  pub between : is_between sport dport frame ≡ true
  pub is : number frame ≡ n

module _ (such : Outcome → Bool) (sport dport : ℕ) where
  read_before : (n : ℕ) (e : Entry) (past : List Entry) → ReadFor such sport dport n past → ReadFor such sport dport n (e ∷ past)
  read_before n e past r = record {
    stream = r.stream;
    frame = r.frame;
    outcome = r.outcome;
    past = r.past;
    at = before r.at;
    is_such = r.is_such;
    between = r.between;
    is = r.is;
  }

  listed : (f : Frame) (o : Outcome) (s : ℕ) (past : List Entry) → (such o && is_between sport dport f) ≡ true →
      read_with such sport dport (Read s f o ∷ past) ≡ read_with such sport dport past ++ number f ∷ []
  listed f o s past is = cond-true _ (read_with such sport dport past ++ number f ∷ []) (read_with such sport dport past) is

  unlisted : (f : Frame) (o : Outcome) (s : ℕ) (past : List Entry) → (such o && is_between sport dport f) ≡ false →
      read_with such sport dport (Read s f o ∷ past) ≡ read_with such sport dport past
  unlisted f o s past is = cond-false _ (read_with such sport dport past ++ number f ∷ []) (read_with such sport dport past) is

  pub read_for : (n : ℕ) (j : List Entry) → Contains (read_with such sport dport j) n → ReadFor such sport dport n j
  read_for n [] inside = absurd (in_nothing n inside)
  read_for n (Read s f o ∷ past) inside =
      elim (cases_Bool (such o && is_between sport dport f)) [
        | inl this ↦
            elim (Contains-push_cases (read_with such sport dport past) (number f) n (subst (λ (l : List ℕ). Contains l n) (listed f o s past this) inside)) [
              | inl older ↦ read_before n (Read s f o) past (read_for n past older)
              | inr is ↦
                  let both = and_parts (such o) (is_between sport dport f) this in
                  record { stream = s; frame = f; outcome = o; past = past; at = now; is_such = both.0; between = both.1; is = is }
            ]
        | inr other ↦
            read_before n (Read s f o) past (read_for n past (subst (λ (l : List ℕ). Contains l n) (unlisted f o s past other) inside))
      ]
  read_for n (x ∷ past) inside = read_before n x past (read_for n past inside)

  listed_step : (e : Entry) (past : List Entry) (n : ℕ) → Contains (read_with such sport dport past) n →
      Contains (read_with such sport dport (e ∷ past)) n
  listed_step (Read s f o) past n inside =
      elim (cases_Bool (such o && is_between sport dport f)) [
        | inl this ↦
            subst (λ (l : List ℕ). Contains l n) (sym (listed f o s past this)) (Contains-append_left (read_with such sport dport past) (number f ∷ []) n inside)
        | inr other ↦ subst (λ (l : List ℕ). Contains l n) (sym (unlisted f o s past other)) inside
      ]
  listed_step _ past n inside = inside

  -- what was read with such an outcome, between the ports, is listed
  pub listed_at : (s : ℕ) (f : Frame) (o : Outcome) {p j : List Entry} → Moment (Read s f o ∷ p) j → such o ≡ true →
      is_between sport dport f ≡ true → Contains (read_with such sport dport j) (number f)
  listed_at s f o {p} now is between =
      subst (λ (l : List ℕ). Contains l (number f)) (sym (listed f o s p (and_from (such o) (is_between sport dport f) is between)))
      (Contains-push (read_with such sport dport p) (number f))
  listed_at s f o (before {e} {j} m) is between = listed_step e j (number f) (listed_at s f o m is between)

  -- the list rises, and stays at or below the last passed number
  pub record Rises (j : List Entry) : Type 0 where
    pub rising : IsStrictlyIncreasing (read_with such sport dport j)
    pub bounded : All (λ n. n ≤ last_passed j) (read_with such sport dport j)

  rises_at : (j : List Entry) (numbers : List ℕ) → read_with such sport dport j ≡ numbers → IsStrictlyIncreasing numbers →
      All (λ n. n ≤ last_passed j) numbers → Rises j
  rises_at j numbers is rising bounded = record {
    rising = subst IsStrictlyIncreasing (sym is) rising;
    bounded = subst (All (λ n. n ≤ last_passed j)) (sym is) bounded;
  }

  rises_step : {past a b : List Entry} (e : Entry) → ArePeers a b → ((o : Outcome) → such o ≡ true → passes o ≡ true) →
      Moment (e ∷ past) b → Rises past → Rises (e ∷ past)
  rises_step {past} (Read s f o) peers passed m older =
      let grown = last_passed_grows peers (before now) m in
      elim (cases_Bool (such o && is_between sport dport f)) [
        | inl this ↦
            let pass = passed o (and_parts (such o) (is_between sport dport f) this).0 in
            let last = cond-true (passes o) (number f) (last_passed past) pass in
            let above = rise s f o peers m pass in
            let list = read_with such sport dport past in
            rises_at (Read s f o ∷ past) (list ++ number f ∷ []) (listed f o s past this)
            (rising_more list (number f) older.rising
            (All-weaker (λ n. n ≤ last_passed past) (λ n. n < number f) (λ n bound. omega (arith, bound, above)) list older.bounded))
            (All-push (λ n. n ≤ last_passed (Read s f o ∷ past)) list (number f)
            (All-weaker (λ n. n ≤ last_passed past) (λ n. n ≤ last_passed (Read s f o ∷ past)) (λ n bound. omega (arith, bound, grown)) list older.bounded)
            (omega (arith, last)))
        | inr other ↦
            let list = read_with such sport dport past in
            rises_at (Read s f o ∷ past) list (unlisted f o s past other) older.rising
            (All-weaker (λ n. n ≤ last_passed past) (λ n. n ≤ last_passed (Read s f o ∷ past)) (λ n bound. omega (arith, bound, grown)) list older.bounded)
      ]
  rises_step _ peers passed m older = record { rising = older.rising; bounded = older.bounded }

  pub rises : {j a b : List Entry} → ArePeers a b → ((o : Outcome) → such o ≡ true → passes o ≡ true) → Moment j b → Rises j
  rises {j} {a} {b} peers passed m = by_moment j m
    where
      by_moment : (j : List Entry) → Moment j b → Rises j
      by_moment [] m = record { rising = λ s within. absurd (omega arith); bounded = All-nil (λ n. n ≤ 0) }
      by_moment (e ∷ past) m = rises_step e peers passed m (by_moment past (past_of m))
