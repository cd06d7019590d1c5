-- Rounds of several pairs of lines, and of none.
use Rattle.std.proofs.Common.{◌≡◌, ◌⊎◌, inl, inr, ℕ, suc, ◌<◌, ◌≤◌, ◌+◌, List, length, min, refl, sym, subst, ◌∙◌, arith}
use Rattle.std.proofs.lemmas.Bool.{cases_lt}
use Rattle.std.proofs.lemmas.Option.{slice_get_within}
use Rattle.rds_fmap.specs.Readers.{WriterView}
use Rattle.rds_link.specs.Ends.{Means}
use Rattle.rds_line.specs.Line.{LineView}
use Rattle.rds_run_rounds.specs.Causes.{IsBefore, known_of}
use Rattle.rds_run_rounds.specs.Connection.{IsFullAt}
use Rattle.rds_run_rounds.specs.Grid.{IsAt}
use Rattle.rds_run_rounds.specs.Sweep.{AreSwept, ComesTo, GoOnTogether, HaveGoneOn, HaveHadRound, IsAmong, IsPair, IsPairBelow, IsPairOf, MissStreamAt, PairAfter, Passed, Stops}
use Rattle.rds_run_rounds.specs.declared.verdict.Round.{Round}
use Rattle.rds_run_rounds.specs.declared.verdict.Round.TheVariants as verdict
use Rattle.rds_run_rounds.specs.declared.verdict.Wanted.{Wanted}
use Rattle.rds_run_rounds.proofs.Going.{goes_same, goes_through}
use Rattle.rds_run_rounds.proofs.Passing.{full_pair, goes_past, late_host, late_pair, one_of}
use Rattle.rds_run_rounds.proofs.Places.{length_through, same_length}

module _ {E : Type 0} (m : Means E) where
  together_same : (low high : ℕ) (one other : LineView E WriterView) → GoOnTogether m low high one other one other
  together_same low high one other = record { one_goes = goes_same one; other_goes = goes_same other; connected = λ limit connected. connected }

  together_through : (low high : ℕ) (a b one other c d : LineView E WriterView) → GoOnTogether m low high a b one other →
      GoOnTogether m low high one other c d → GoOnTogether m low high a b c d
  together_through low high a b one other c d first second = record {
    one_goes = goes_through a one c first.one_goes second.one_goes;
    other_goes = goes_through b other d first.other_goes second.other_goes;
    connected = λ limit connected. second.connected limit (first.connected limit connected);
  }

module _ {E : Type 0} (m : Means E) (w : Wanted) where
  -- a pair that is in none of the rounds
  pub pair_same : (In Idle Pass : Type 0) (low place : ℕ) (one other : LineView E WriterView) (rows : List (List (LineView E WriterView))) → (In → ⊥) →
      IsAt rows low place one → IsAt rows (suc place) low other → PairAfter m w In Idle Pass low place one other rows
  pair_same In Idle Pass low place one other rows out one_at other_at = record {
    one_after = one;
    other_after = other;
    one_at = one_at;
    other_at = other_at;
    together = together_same m low (suc place) one other;
    round = λ among. absurd (out among);
    gone_on = λ among. absurd (out among);
    one_same = λ none. refl;
    other_same = λ none. refl;
  }

  weaker : (Idle Idler : Type 0) (one other : LineView E WriterView) → (Idler → Idle) → HaveHadRound m w Idle one other → HaveHadRound m w Idler one other
  weaker Idle Idler one other so had = record {
    sound = had.sound;
    left = λ idle. had.left (so idle);
    quiet = λ idle. had.quiet (so idle);
    room = λ idle. had.room (so idle);
    owes = λ idle. had.owes (so idle);
    drained = λ tells idle. had.drained tells (so idle);
  }

module _ {E : Type 0} (m : Means E) (wanted : List (List Wanted)) where
  -- none had a round
  pub swept_none : (In : ℕ → ℕ → Type 0) (rows : List (List (LineView E WriterView))) → ((low place : ℕ) → low ≤ place → In low place → ⊥) →
      AreSwept m wanted In verdict.Idle rows rows
  swept_none In rows none = record {
    lengths = same_length rows;
    pair = λ low place one other ordered one_at other_at. pair_same m (known_of wanted low (suc place)) (In low place) (verdict.Idle ≡ verdict.Idle) (Passed verdict.Idle low (suc place)) low place one other rows (none low place ordered) one_at other_at;
    fault = λ low high is. absurd (cc);
    spent = λ host peer entries is. absurd (cc);
  }

  -- these rounds, and then those of other pairs
  pub swept_through : (In Too : ℕ → ℕ → Type 0) (first second came : Round) (a b c : List (List (LineView E WriterView))) →
      AreSwept m wanted In first a b → AreSwept m wanted Too second b c → ((low place : ℕ) → low ≤ place → In low place → Too low place → ⊥) →
      ((low place host at : ℕ) → In host at → Too low place → IsBefore low (suc place) host (suc at) → ⊥) →
      (came ≡ verdict.Idle → (first ≡ verdict.Idle) × (second ≡ verdict.Idle)) → ComesTo came first second →
      AreSwept m wanted (λ low place. In low place ⊎ Too low place) came a c
  swept_through In Too first second came a b c one two apart late idle exact = record {
    lengths = length_through a b c one.lengths two.lengths;
    pair = λ low place x y ordered x_at y_at. after low place x y ordered (one.pair low place x y ordered x_at y_at);
    fault = λ lower higher is.
        found (λ low high. MissStreamAt m.tells (known_of wanted low high) lower higher low high) (verdict.Fault lower higher) is (one.fault lower higher)
        (two.fault lower higher) (one_of came first second exact);
    spent = λ host peer entries is.
        found (IsFullAt host peer entries) (verdict.Spent host peer entries) is (one.spent host peer entries) (two.spent host peer entries)
        (one_of came first second exact);
  }
    where
      -- where both come to what passes a pair, the first does
      first_passed : (low high : ℕ) → Passed came low high → Passed first low high
      first_passed low high passed = by_exact exact
        where
          by_exact : ComesTo came first second → Passed first low high
          by_exact (inl it) = subst (λ (r : Round). Passed r low high) it.0 passed
          by_exact (inr it) = goes_past first low high it.1

      -- what stops the first ones passes no later pair
      stopped : (r : Round) → first ≡ r → Stops r → (low place : ℕ) → Too low place → Passed r low (suc place) → ⊥
      stopped verdict.Moved is stops low place later passed = stops
      stopped verdict.Idle is stops low place later passed = stops
      stopped (verdict.Fault lower higher) is stops low place later passed =
          let found = one.fault lower higher is in
          late low place found.low found.place found.among later
          (subst (λ (n : ℕ). IsBefore low (suc place) n (suc found.place)) found.holds.0
          (subst (λ (n : ℕ). IsBefore low (suc place) lower n) found.holds.1 passed))
      stopped (verdict.Spent host peer entries) is stops low place later passed =
          let found = one.spent host peer entries is in
          let ordered = found.ordered in
          let named = full_pair host peer entries found.low (suc found.place) found.one found.other (omega (arith, ordered)) found.holds in
          late low place found.low found.place found.among later
          (subst (λ (n : ℕ). IsBefore low (suc place) n (suc found.place)) named.0
          (subst (λ (n : ℕ). IsBefore low (suc place) (min host peer) n) named.1 passed))
      stopped verdict.Memory is stops low place later passed = passed

      -- and the second does where the pair is among its own
      second_passed : (low place : ℕ) → Too low place → Passed came low (suc place) → Passed second low (suc place)
      second_passed low place later passed = by_exact exact
        where
          by_exact : ComesTo came first second → Passed second low (suc place)
          by_exact (inl (same, inl stops)) =
              absurd (stopped first refl stops low place later (subst (λ (r : Round). Passed r low (suc place)) same passed))
          by_exact (inl (same, inr none)) = subst (λ (r : Round). Passed r low (suc place)) (sym none) tt
          by_exact (inr it) = subst (λ (r : Round). Passed r low (suc place)) it.0 passed

      after : (low place : ℕ) (x y : LineView E WriterView) → low ≤ place → PairAfter m (known_of wanted low (suc place)) (In low place) (first ≡ verdict.Idle) (Passed first low (suc place)) low place x y b →
          PairAfter m (known_of wanted low (suc place)) (In low place ⊎ Too low place) (came ≡ verdict.Idle) (Passed came low (suc place)) low place x y c
      after low place x y ordered was =
          let is = two.pair low place was.one_after was.other_after ordered was.one_at was.other_at in
          record {
            one_after = is.one_after;
            other_after = is.other_after;
            one_at = is.one_at;
            other_at = is.other_at;
            together = together_through m low (suc place) x y was.one_after was.other_after is.one_after is.other_after was.together is.together;
            round = λ among.
                elim among [
                  | inl earlier ↦
                      subst (λ (l : LineView E WriterView). HaveHadRound m (known_of wanted low (suc place)) (came ≡ verdict.Idle) l is.other_after) (sym (is.one_same (apart low place ordered earlier)))
                      (subst (λ (l : LineView E WriterView). HaveHadRound m (known_of wanted low (suc place)) (came ≡ verdict.Idle) was.one_after l) (sym (is.other_same (apart low place ordered earlier)))
                      (weaker m (known_of wanted low (suc place)) (first ≡ verdict.Idle) (came ≡ verdict.Idle) was.one_after was.other_after (λ none. (idle none).0) (was.round earlier)))
                  | inr later ↦
                      weaker m (known_of wanted low (suc place)) (second ≡ verdict.Idle) (came ≡ verdict.Idle) is.one_after is.other_after (λ none. (idle none).1) (is.round later)
                ];
            gone_on = λ among passed.
                elim among [
                  | inl earlier ↦
                      subst (λ (l : LineView E WriterView). HaveGoneOn m.tells (known_of wanted low (suc place)) x y l is.other_after) (sym (is.one_same (apart low place ordered earlier)))
                      (subst (λ (l : LineView E WriterView). HaveGoneOn m.tells (known_of wanted low (suc place)) x y was.one_after l) (sym (is.other_same (apart low place ordered earlier)))
                      (was.gone_on earlier (first_passed low (suc place) passed)))
                  | inr later ↦
                      subst (λ (l : LineView E WriterView). HaveGoneOn m.tells (known_of wanted low (suc place)) l y is.one_after is.other_after) (was.one_same (λ earlier. apart low place ordered earlier later))
                      (subst (λ (l : LineView E WriterView). HaveGoneOn m.tells (known_of wanted low (suc place)) was.one_after l is.one_after is.other_after)
                      (was.other_same (λ earlier. apart low place ordered earlier later)) (is.gone_on later (second_passed low place later passed)))
                ];
            one_same = λ out. is.one_same (λ later. out (inr later)) ∙ was.one_same (λ earlier. out (inl earlier));
            other_same = λ out. is.other_same (λ later. out (inr later)) ∙ was.other_same (λ earlier. out (inl earlier));
          }

      -- what holds of one of these pairs, or of one of those
      found : (Holds : (low high : ℕ) → (x y : LineView E WriterView) → Type 0) (verdict : Round) → came ≡ verdict → (first ≡ verdict → IsAmong In Holds b) →
          (second ≡ verdict → IsAmong Too Holds c) → (came ≡ first) ⊎ (came ≡ second) → IsAmong (λ low place. In low place ⊎ Too low place) Holds c
      found Holds verdict is earlier later (inl same) =
          let at = earlier (sym same ∙ is) in
          let stays = two.pair at.low at.place at.one at.other at.ordered at.one_at at.other_at in
          let out = apart at.low at.place at.ordered at.among in
          record {
            low = at.low;
            place = at.place;
            one = stays.one_after;
            other = stays.other_after;
            ordered = at.ordered;
            among = inl at.among;
            one_at = stays.one_at;
            other_at = stays.other_at;
            holds =
                subst (λ (l : LineView E WriterView). Holds at.low (suc at.place) l stays.other_after) (sym (stays.one_same out))
                (subst (λ (l : LineView E WriterView). Holds at.low (suc at.place) at.one l) (sym (stays.other_same out)) at.holds);
          }
      found Holds verdict is earlier later (inr same) =
          let at = later (sym same ∙ is) in
          record {
            low = at.low;
            place = at.place;
            one = at.one;
            other = at.other;
            ordered = at.ordered;
            among = inr at.among;
            one_at = at.one_at;
            other_at = at.other_at;
            holds = at.holds;
          }

  -- the same pairs in other words
  pub swept_as : (In Too : ℕ → ℕ → Type 0) (came : Round) (old new : List (List (LineView E WriterView))) → AreSwept m wanted In came old new →
      ((low place : ℕ) → low ≤ place → suc place < length old → In low place → Too low place) →
      ((low place : ℕ) → low ≤ place → suc place < length old → Too low place → In low place) → AreSwept m wanted Too came old new
  swept_as In Too came old new swept forth back = record {
    lengths = swept.lengths;
    pair = λ low place x y ordered x_at y_at.
        let after = swept.pair low place x y ordered x_at y_at in
        let within = slice_get_within old (suc place) y_at.0 y_at.1 in
        record {
          one_after = after.one_after;
          other_after = after.other_after;
          one_at = after.one_at;
          other_at = after.other_at;
          together = after.together;
          round = λ among. after.round (back low place ordered within among);
          gone_on = λ among. after.gone_on (back low place ordered within among);
          one_same = λ out. after.one_same (λ among. out (forth low place ordered within among));
          other_same = λ out. after.other_same (λ among. out (forth low place ordered within among));
        };
    fault = λ first second is. among (λ low high. MissStreamAt m.tells (known_of wanted low high) first second low high) (swept.fault first second is);
    spent = λ host peer entries is. among (IsFullAt host peer entries) (swept.spent host peer entries is);
  }
    where
      among : (Holds : (low high : ℕ) → (x y : LineView E WriterView) → Type 0) → IsAmong In Holds new → IsAmong Too Holds new
      among Holds at =
          let within = slice_get_within new (suc at.place) at.other_at.0 at.other_at.1 in
          record {
            low = at.low;
            place = at.place;
            one = at.one;
            other = at.other;
            ordered = at.ordered;
            among = forth at.low at.place at.ordered (omega (arith, within, swept.lengths.count)) at.among;
            one_at = at.one_at;
            other_at = at.other_at;
            holds = at.holds;
          }

  module _ (first second came : Round) (a b c : List (List (LineView E WriterView))) (idle : came ≡ verdict.Idle → (first ≡ verdict.Idle) × (second ≡ verdict.Idle))
      (exact : ComesTo came first second) where
    -- one more pair of a host
    pub next_pair : (low high : ℕ) → AreSwept m wanted (IsPairOf low high) first a b → AreSwept m wanted (IsPair low high) second b c →
        AreSwept m wanted (IsPairOf low (high + 1)) came a c
    next_pair low high one two =
        swept_as (λ host place. IsPairOf low high host place ⊎ IsPair low high host place) (IsPairOf low (high + 1)) came a c
        (swept_through (IsPairOf low high) (IsPair low high) first second came a b c one two
        (λ host place ordered among also. omega (arith, among.1, also.1)) (late_pair low high) idle exact)
        (λ host place ordered within among.
        elim among [ inl earlier ↦ (earlier.0, omega (arith, earlier.1)) | inr last ↦ (last.0, omega (arith, last.1)) ])
        (λ host place ordered within among.
        elim (cases_lt (suc place) high) [ inl earlier ↦ inl (among.0, earlier) | inr last ↦ inr (among.0, omega (arith, last, among.1)) ])

    -- the pairs of one more host
    pub next_host : (low hosts : ℕ) → AreSwept m wanted (IsPairBelow low hosts) first a b → AreSwept m wanted (IsPairOf low hosts) second b c →
        AreSwept m wanted (IsPairBelow (low + 1) hosts) came a c
    next_host low hosts one two =
        swept_as (λ host place. IsPairBelow low hosts host place ⊎ IsPairOf low hosts host place) (IsPairBelow (low + 1) hosts) came a c
        (swept_through (IsPairBelow low hosts) (IsPairOf low hosts) first second came a b c one two
        (λ host place ordered among also. omega (arith, among.0, also.0)) (late_host low hosts) idle exact)
        (λ host place ordered within among.
        elim among [ inl earlier ↦ (omega (arith, earlier.0), earlier.1) | inr last ↦ (omega (arith, last.0), last.1) ])
        (λ host place ordered within among.
        elim (cases_lt host low) [ inl earlier ↦ inl (earlier, among.1) | inr last ↦ inr (omega (arith, last, among.0), among.1) ])

module _ {E : Type 0} (m : Means E) (wanted : List (List Wanted)) where
  -- no pair of a host is below the next one
  pub none_of : (low high : ℕ) (rows : List (List (LineView E WriterView))) → high ≡ low + 1 → AreSwept m wanted (IsPairOf low high) verdict.Idle rows rows
  none_of low high rows next = swept_none m wanted (IsPairOf low high) rows (λ host place ordered among. omega (arith, ordered, among.0, among.1, next))

  pub none_below : (hosts : ℕ) (rows : List (List (LineView E WriterView))) → AreSwept m wanted (IsPairBelow 0 hosts) verdict.Idle rows rows
  none_below hosts rows = swept_none m wanted (IsPairBelow 0 hosts) rows (λ host place ordered among. omega (arith, among.0))

  -- all pairs of a host, and all pairs
  pub whole_host : (low high hosts : ℕ) (came : Round) (old new : List (List (LineView E WriterView))) → hosts ≤ high → hosts ≡ length old →
      AreSwept m wanted (IsPairOf low high) came old new → AreSwept m wanted (IsPairOf low hosts) came old new
  whole_host low high hosts came old new past full swept =
      swept_as m wanted (IsPairOf low high) (IsPairOf low hosts) came old new swept (λ host place ordered within among. (among.0, omega (arith, within, full)))
      (λ host place ordered within among. (among.0, omega (arith, among.1, past)))

  pub whole_run : (low hosts : ℕ) (came : Round) (old new : List (List (LineView E WriterView))) → hosts ≤ low →
      AreSwept m wanted (IsPairBelow low hosts) came old new → AreSwept m wanted (IsPairBelow hosts hosts) came old new
  whole_run low hosts came old new past swept =
      swept_as m wanted (IsPairBelow low hosts) (IsPairBelow hosts hosts) came old new swept
      (λ host place ordered within among. (omega (arith, ordered, among.1), among.1)) (λ host place ordered within among. (omega (arith, among.0, past), among.1))
