-- A round of one pair of lines.
use Rattle.std.proofs.Common.{◌≡◌, ◌⊎◌, inl, inr, ℕ, suc, ◌<◌, ◌≤◌, ◌-◌, List, length, max, min, set, Some, slice_get, refl, sym, ap, subst, ◌∙◌, arith}
use Rattle.std.proofs.lemmas.Bool.{cases_eq}
use Rattle.std.proofs.lemmas.Option.{slice_get_within}
use Rattle.rds_fmap.specs.Readers.{WriterView}
use Rattle.rds_link.specs.Ends.{Means}
use Rattle.rds_line.specs.Line.{LineView}
use Rattle.rds_line_channel.specs.PlaceLaws.{beside_set}
use Rattle.rds_run_rounds.specs.Causes.{known_of}
use Rattle.rds_run_rounds.specs.Connection.{IsFullAt}
use Rattle.rds_run_rounds.specs.Grid.{EachRow, IsAt}
use Rattle.rds_run_rounds.specs.Sweep.{AreSwept, GoOnTogether, GoesOn, HasAsMany, HaveGoneOn, HaveHadRound, IsAmong, IsPair, MissStreamAt, PairAfter, Passed, RowsHadRound}
use Rattle.rds_run_rounds.specs.declared.verdict.Round.{Round}
use Rattle.rds_run_rounds.specs.declared.verdict.Round.TheVariants as verdict
use Rattle.rds_run_rounds.specs.declared.verdict.Wanted.{Wanted}
use Rattle.rds_run_rounds.proofs.Passing.{full_pair, not_before}
use Rattle.rds_run_rounds.proofs.Places.{at_other, at_there, length_through, same_at, set_lengths}
use Rattle.rds_run_rounds.proofs.Sweeps.{pair_same}

module _ {E : Type 0} (m : Means E) (wanted : List (List Wanted)) where
  -- one pair had a round
  module _ (low high : ℕ) (came : Round) (rows : List (List (LineView E WriterView))) (lower higher : List (LineView E WriterView)) (less : low < high)
      (lower_at : slice_get rows low ≡ Some lower) (higher_at : slice_get rows high ≡ Some higher) where
    -- both rows of the pair with a new line
    abbrev after_both : LineView E WriterView → LineView E WriterView → List (List (LineView E WriterView))
    after_both x y = set (set rows low (set lower (high - 1) x)) high (set higher low y)

    still : (x : LineView E WriterView) → slice_get (set rows low (set lower (high - 1) x)) high ≡ Some higher
    still x = beside_set rows low high (set lower (high - 1) x) (λ same. omega (arith, same, less)) ∙ higher_at

    beside_both : (x y : LineView E WriterView) (host place : ℕ) (line : LineView E WriterView) → (host ≡ low → place ≡ high - 1 → ⊥) →
        (host ≡ high → place ≡ low → ⊥) → IsAt rows host place line → IsAt (after_both x y) host place line
    beside_both x y host place line out out_too at =
        at_other (set rows low (set lower (high - 1) x)) high higher (still x) low y host place line out_too
        (at_other rows low lower lower_at (high - 1) x host place line out at)

    swept_both : (lower_after higher_after : List (LineView E WriterView)) → (had : RowsHadRound m (known_of wanted low high) low high came lower higher lower_after higher_after) →
        high < length rows → AreSwept m wanted (IsPair low high) came rows (after_both had.one_after had.other_after)
    swept_both lower_after higher_after had within = record {
      lengths = lengths;
      pair = λ host place one other ordered one_at other_at. by_pair host place one other ordered one_at other_at (cases_eq host low) (cases_eq (suc place) high);
      fault = λ first second is. here (λ l h. MissStreamAt m.tells (known_of wanted l h) first second l h) (had.fault first second is);
      spent = λ host peer entries is. here (IsFullAt host peer entries) (had.spent host peer entries is);
    }
      where
        top : suc (high - 1) ≡ high
        top = omega (arith, less)

        lengths : EachRow HasAsMany rows (after_both had.one_after had.other_after)
        lengths =
            length_through rows (set rows low (set lower (high - 1) had.one_after)) (after_both had.one_after had.other_after)
            (set_lengths rows low lower lower_at (high - 1) had.one_after)
            (set_lengths (set rows low (set lower (high - 1) had.one_after)) high higher (still had.one_after) low had.other_after)

        one_here : IsAt (after_both had.one_after had.other_after) low (high - 1) had.one_after
        one_here =
            at_other (set rows low (set lower (high - 1) had.one_after)) high higher (still had.one_after) low had.other_after low (high - 1) had.one_after
            (λ same. λ also. omega (arith, same, less))
            (at_there rows low lower lower_at (high - 1) had.one_after (slice_get_within lower (high - 1) had.one had.one_at))

        other_here : IsAt (after_both had.one_after had.other_after) high low had.other_after
        other_here =
            at_there (set rows low (set lower (high - 1) had.one_after)) high higher (still had.one_after) low had.other_after
            (slice_get_within higher low had.other had.other_at)

        -- a round that passes its own pair stops nothing
        goes : (r : Round) → came ≡ r → Passed r low high → GoesOn r
        goes verdict.Moved is passed = tt
        goes verdict.Idle is passed = tt
        goes (verdict.Fault first second) is passed =
            let found = had.fault first second is in
            absurd (not_before low high first second found.0 found.1 passed)
        goes (verdict.Spent host peer entries) is passed =
            let named = full_pair host peer entries low high had.one_after had.other_after less (had.spent host peer entries is) in
            absurd (not_before low high (min host peer) (max host peer) named.0 named.1 passed)
        goes verdict.Memory is passed = passed

        here : (Holds : (first second : ℕ) → (x y : LineView E WriterView) → Type 0) → Holds low high had.one_after had.other_after →
            IsAmong (IsPair low high) Holds (after_both had.one_after had.other_after)
        here Holds holds = record {
          low = low;
          place = high - 1;
          one = had.one_after;
          other = had.other_after;
          ordered = omega (arith, less);
          among = (refl, top);
          one_at = one_here;
          other_at = subst (λ (n : ℕ). IsAt (after_both had.one_after had.other_after) n low had.other_after) (sym top) other_here;
          holds = subst (λ (n : ℕ). Holds low n had.one_after had.other_after) (sym top) holds;
        }

        inside : (host place : ℕ) (one other : LineView E WriterView) → IsAt rows host place one → IsAt rows (suc place) host other → host ≡ low → suc place ≡ high →
            PairAfter m (known_of wanted host (suc place)) (IsPair low high host place) (came ≡ verdict.Idle) (Passed came host (suc place)) host place one other
            (after_both had.one_after had.other_after)
        inside host place one other one_at other_at same next =
            let place_is : place ≡ high - 1 = omega (arith, next) in
            let known : known_of wanted low high ≡ known_of wanted host (suc place) =
            ap (λ (n : ℕ). known_of wanted n high) (sym same) ∙ ap (λ (n : ℕ). known_of wanted host n) (sym next) in
            let one_is : had.one ≡ one =
            same_at rows host place had.one one (lower, ap (slice_get rows) same ∙ lower_at, ap (slice_get lower) place_is ∙ had.one_at) one_at in
            let other_is : had.other ≡ other =
            same_at rows (suc place) host had.other other (higher, ap (slice_get rows) next ∙ higher_at, ap (slice_get higher) same ∙ had.other_at) other_at in
            record {
              one_after = had.one_after;
              other_after = had.other_after;
              one_at =
                  subst (λ (n : ℕ). IsAt (after_both had.one_after had.other_after) n place had.one_after) (sym same)
                  (subst (λ (n : ℕ). IsAt (after_both had.one_after had.other_after) low n had.one_after) (sym place_is) one_here);
              other_at =
                  subst (λ (n : ℕ). IsAt (after_both had.one_after had.other_after) n host had.other_after) (sym next)
                  (subst (λ (n : ℕ). IsAt (after_both had.one_after had.other_after) high n had.other_after) (sym same) other_here);
              together =
                  subst (λ (n : ℕ). GoOnTogether m n (suc place) one other had.one_after had.other_after) (sym same)
                  (subst (λ (n : ℕ). GoOnTogether m low n one other had.one_after had.other_after) (sym next)
                  (subst (λ (l : LineView E WriterView). GoOnTogether m low high l other had.one_after had.other_after) one_is
                  (subst (λ (l : LineView E WriterView). GoOnTogether m low high had.one l had.one_after had.other_after) other_is had.together)));
              round = λ among. subst (λ (w : Wanted). HaveHadRound m w (came ≡ verdict.Idle) had.one_after had.other_after) known had.round;
              gone_on = λ among passed.
                  subst (λ (w : Wanted). HaveGoneOn m.tells w one other had.one_after had.other_after) known
                  (subst (λ (l : LineView E WriterView). HaveGoneOn m.tells (known_of wanted low high) l other had.one_after had.other_after) one_is
                  (subst (λ (l : LineView E WriterView). HaveGoneOn m.tells (known_of wanted low high) had.one l had.one_after had.other_after) other_is
                  (had.gone_on (goes came refl (subst (λ (n : ℕ). Passed came low n) next (subst (λ (n : ℕ). Passed came n (suc place)) same passed))))));
              one_same = λ out. absurd (out (same, next));
              other_same = λ out. absurd (out (same, next));
            }

        outside : (host place : ℕ) (one other : LineView E WriterView) → host ≤ place → IsAt rows host place one → IsAt rows (suc place) host other →
            (IsPair low high host place → ⊥) →
            PairAfter m (known_of wanted host (suc place)) (IsPair low high host place) (came ≡ verdict.Idle) (Passed came host (suc place)) host place one other
            (after_both had.one_after had.other_after)
        outside host place one other ordered one_at other_at out =
            pair_same m (known_of wanted host (suc place)) (IsPair low high host place) (came ≡ verdict.Idle) (Passed came host (suc place)) host place one other (after_both had.one_after had.other_after) out
            (beside_both had.one_after had.other_after host place one (λ same. λ also. out (same, omega (arith, also, less)))
            (λ same. λ also. omega (arith, same, also, ordered, less)) one_at)
            (beside_both had.one_after had.other_after (suc place) host other (λ same. λ also. omega (arith, same, also, ordered, less))
            (λ same. λ also. out (also, same)) other_at)

        by_pair : (host place : ℕ) (one other : LineView E WriterView) → host ≤ place → IsAt rows host place one → IsAt rows (suc place) host other →
            (host ≡ low) ⊎ (host ≡ low → ⊥) → (suc place ≡ high) ⊎ (suc place ≡ high → ⊥) →
            PairAfter m (known_of wanted host (suc place)) (IsPair low high host place) (came ≡ verdict.Idle) (Passed came host (suc place)) host place one other
            (after_both had.one_after had.other_after)
        by_pair host place one other ordered one_at other_at (inl same) (inl next) = inside host place one other one_at other_at same next
        by_pair host place one other ordered one_at other_at (inl same) (inr apart) = outside host place one other ordered one_at other_at (λ is. apart is.1)
        by_pair host place one other ordered one_at other_at (inr apart) next = outside host place one other ordered one_at other_at (λ is. apart is.0)

    swept_rows : (lower_after higher_after : List (LineView E WriterView)) → RowsHadRound m (known_of wanted low high) low high came lower higher lower_after higher_after →
        AreSwept m wanted (IsPair low high) came rows (set (set rows low lower_after) high higher_after)
    swept_rows lower_after higher_after had =
        subst (λ (l : List (LineView E WriterView)). AreSwept m wanted (IsPair low high) came rows (set (set rows low l) high higher_after)) (sym had.lower_is)
        (subst (λ (l : List (LineView E WriterView)). AreSwept m wanted (IsPair low high) came rows (set (set rows low (set lower (high - 1) had.one_after)) high l)) (sym had.higher_is)
        (swept_both lower_after higher_after had (slice_get_within rows high higher higher_at)))

    pub swept_pair : (lower_after higher_after : List (LineView E WriterView)) (w : Wanted) → w ≡ known_of wanted low high →
        RowsHadRound m w low high came lower higher lower_after higher_after →
        AreSwept m wanted (IsPair low high) came rows (set (set rows low lower_after) high higher_after)
    swept_pair lower_after higher_after w known had =
        swept_rows lower_after higher_after (subst (λ (v : Wanted). RowsHadRound m v low high came lower higher lower_after higher_after) known had)
