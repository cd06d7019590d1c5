-- One more stream is prepared.
use Rattle.std.proofs.Common.{◌≡◌, ◌<◌, ◌≤◌, ℕ, suc, zero, ◌+◌, List, [], ◌∷◌, ◌++◌, Some, length, slice_get, slice_index, All, refl, sym, ap, subst, ◌∙◌, arith}
use Rattle.std.specs.List.Sorted.{IsStrictlyIncreasing}
use Rattle.std.proofs.lemmas.Option.{same_Some}
use Rattle.std.proofs.lemmas.List.{map-append}
use Rattle.std.proofs.lemmas.List.Elements.{All-nil, All-cons, All-append}
use Rattle.rds_link.specs.Ends.{Means, IsFresh}
use Rattle.rds_line_channel.specs.Meeting.{AtEach}
use Rattle.rds_line_channel.specs.Streams.{IsUnused, numbers}
use Rattle.rds_run_hosts.specs.Preparing.{ArePrepared}

module _ {E : Type 0} where
  -- a number above all others goes behind them
  rising_snoc : (p b : ℕ) (xs : List (ℕ × E)) (a : E) → p ≤ b → All (λ s. s.0 ≤ b) xs → IsStrictlyIncreasing (p ∷ numbers xs) →
      IsStrictlyIncreasing (p ∷ numbers (xs ++ (b + 1, a) ∷ []))
  rising_snoc p b [] a low most up zero within = omega (arith, low)
  rising_snoc p b [] a low most up (suc k) within = absurd (omega (arith, within))
  rising_snoc p b (x ∷ xs) a low most up zero within = up 0 (omega arith)
  rising_snoc p b (x ∷ xs) a low most up (suc k) within =
      let next : (n : ℕ) → suc n + 1 ≡ suc (n + 1) = λ n. omega arith in
      let rest = rising_snoc x.0 b xs a (most 0 x (omega arith)) (λ i d lt. most (suc i) d (omega (arith, lt)))
      (λ i lt. subst (λ n. slice_index (x.0 ∷ numbers xs) i < slice_index (p ∷ x.0 ∷ numbers xs) n) (next i) (up (suc i) (omega (arith, lt)))) in
      subst (λ n. slice_index (x.0 ∷ numbers (xs ++ (b + 1, a) ∷ [])) k < slice_index (p ∷ x.0 ∷ numbers (xs ++ (b + 1, a) ∷ [])) n)
      (sym (next k)) (rest k (omega (arith, within)))

  -- what holds of the ends at each place holds behind them too
  at_snoc : (Holds : E → E → Type 0) (n : ℕ) (a c : E) (xs ys : List (ℕ × E)) → length xs ≡ length ys → AtEach Holds xs ys → Holds a c →
      (place : ℕ) (x y : ℕ × E) → slice_get (xs ++ (n, a) ∷ []) place ≡ Some x → slice_get (ys ++ (n, c) ∷ []) place ≡ Some y → Holds x.1 y.1
  at_snoc Holds n a c [] [] same h one zero x y at_x at_y =
      subst (λ (s : ℕ × E). Holds s.1 y.1) (same_Some (n, a) x at_x) (subst (λ (s : ℕ × E). Holds a s.1) (same_Some (n, c) y at_y) one)
  at_snoc Holds n a c [] [] same h one (suc place) x y at_x at_y = absurd (cc)
  at_snoc Holds n a c [] (v ∷ ys) same h one place x y at_x at_y = absurd (omega (arith, same))
  at_snoc Holds n a c (u ∷ xs) [] same h one place x y at_x at_y = absurd (omega (arith, same))
  at_snoc Holds n a c (u ∷ xs) (v ∷ ys) same h one zero x y at_x at_y = h.at 0 x y at_x at_y
  at_snoc Holds n a c (u ∷ xs) (v ∷ ys) same h one (suc place) x y at_x at_y =
      at_snoc Holds n a c xs ys (omega (arith, same)) (record { at = λ p s t at_s at_t. h.at (suc p) s t at_s at_t }) one place x y at_x at_y

module _ {E : Type 0} (m : Means E) where
  fresh_unused : (e : E) → IsFresh m e → IsUnused m e
  fresh_unused e f = (λ tells. ((f.0 tells).0, (f.0 tells).1), ap (λ s. s.is_shut) f.1)

  more_most : (b : ℕ) (xs : List (ℕ × E)) (a : E) → All (λ s. s.0 ≤ b) xs → All (λ s. s.0 ≤ b + 1) (xs ++ (b + 1, a) ∷ [])
  more_most b xs a most =
      All-append (λ (s : ℕ × E). s.0 ≤ b + 1) xs ((b + 1, a) ∷ []) (λ k d lt. let few = most k d lt in omega (arith, few))
      (All-cons (λ (s : ℕ × E). s.0 ≤ b + 1) (b + 1, a) [] (omega arith) (All-nil (λ (s : ℕ × E). s.0 ≤ b + 1)))

  more_unused : (b : ℕ) (xs : List (ℕ × E)) (a : E) → IsFresh m a → All (λ s. IsUnused m s.1) xs → All (λ s. IsUnused m s.1) (xs ++ (b + 1, a) ∷ [])
  more_unused b xs a fresh all =
      All-append (λ (s : ℕ × E). IsUnused m s.1) xs ((b + 1, a) ∷ []) all
      (All-cons (λ (s : ℕ × E). IsUnused m s.1) (b + 1, a) [] (fresh_unused a fresh) (All-nil (λ (s : ℕ × E). IsUnused m s.1)))

  pub same_count : (xs ys : List (ℕ × E)) → numbers ys ≡ numbers xs → length xs ≡ length ys
  same_count xs ys same = sym (length_numbers xs) ∙ (ap length (sym same) ∙ length_numbers ys)
    where
      length_numbers : (zs : List (ℕ × E)) → length (numbers zs) ≡ length zs
      length_numbers [] = refl
      length_numbers (z ∷ zs) = ap suc (length_numbers zs)

  pub prepared_more : (b : ℕ) (low high : List (ℕ × E)) (a c : E) → ArePrepared m b low high → IsFresh m a → IsFresh m c → m.meets a c →
      ArePrepared m (b + 1) (low ++ (b + 1, a) ∷ []) (high ++ (b + 1, c) ∷ [])
  prepared_more b low high a c p first second meets = record {
    paired = record {
      same =
          map-append (λ (s : ℕ × E). s.0) high ((b + 1, c) ∷ [])
          ∙ (ap (λ (ns : List ℕ). ns ++ (b + 1) ∷ []) p.paired.same ∙ sym (map-append (λ (s : ℕ × E). s.0) low ((b + 1, a) ∷ [])));
      pairs = record { at = at_snoc m.meets (b + 1) a c low high (same_count low high p.paired.same) p.paired.pairs meets };
    };
    one_numbered = rising_snoc 0 b low a (omega arith) p.one_most p.one_numbered;
    other_numbered = rising_snoc 0 b high c (omega arith) p.other_most p.other_numbered;
    one_most = more_most b low a p.one_most;
    other_most = more_most b high c p.other_most;
    one_unused = more_unused b low a first p.one_unused;
    other_unused = more_unused b high c second p.other_unused;
  }

  -- where a stream can't be opened its number is left out
  pub prepared_less : (b : ℕ) (low high : List (ℕ × E)) → ArePrepared m b low high → ArePrepared m (b + 1) low high
  prepared_less b low high p = record {
    paired = p.paired;
    one_numbered = p.one_numbered;
    other_numbered = p.other_numbered;
    one_most = λ k d lt. let few = p.one_most k d lt in omega (arith, few);
    other_most = λ k d lt. let few = p.other_most k d lt in omega (arith, few);
    one_unused = p.one_unused;
    other_unused = p.other_unused;
  }

  -- before any is opened
  pub none_prepared : ArePrepared m 0 [] []
  none_prepared = record {
    paired = record { same = refl; pairs = record { at = λ place x y at_x at_y. absurd (cc) } };
    one_numbered = λ k within. absurd (omega (arith, within));
    other_numbered = λ k within. absurd (omega (arith, within));
    one_most = All-nil (λ (s : ℕ × E). s.0 ≤ 0);
    other_most = All-nil (λ (s : ℕ × E). s.0 ≤ 0);
    one_unused = All-nil (λ (s : ℕ × E). IsUnused m s.1);
    other_unused = All-nil (λ (s : ℕ × E). IsUnused m s.1);
  }
