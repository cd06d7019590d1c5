-- Laws, each proved: proofs in other crates use them. Nothing here has to be believed.
-- The numbers from 1 to m that pass a test: the first of them, and that there is none.
use Rattle.std.proofs.Common.{◌≡◌, ◌⊎◌, inl, inr, ℕ, zero, suc, ◌<◌, ◌≤◌, Bool, true, false, List, [], ◌∷◌, ◌++◌, refl, sym, ◌∙◌, ap, arith}
use Rattle.std.specs.List.{filter}
use Rattle.std.proofs.lemmas.Bool.{cases_Bool, cases_eq, cond-true, cond-false}
use Rattle.std.proofs.lemmas.List.Elements.{filter-append}
use Rattle.rds_model.specs.Alive.{up_to}

module _ (p : ℕ → Bool) where
  passed_more : (m : ℕ) → p (suc m) ≡ true → filter p (up_to (suc m)) ≡ filter p (up_to m) ++ suc m ∷ []
  passed_more m passes =
      filter-append p (up_to m) (suc m ∷ []) ∙ ap (λ (l : List ℕ). filter p (up_to m) ++ l) (cond-true (p (suc m)) (suc m ∷ []) [] passes)

  failed_more : (m : ℕ) → p (suc m) ≡ false → filter p (up_to (suc m)) ≡ filter p (up_to m) ++ []
  failed_more m fails =
      filter-append p (up_to m) (suc m ∷ []) ∙ ap (λ (l : List ℕ). filter p (up_to m) ++ l) (cond-false (p (suc m)) (suc m ∷ []) [] fails)

  front_empty : (xs ys : List ℕ) → xs ++ ys ≡ [] → (xs ≡ []) × (ys ≡ [])
  front_empty [] ys e = (refl, e)
  front_empty (x ∷ xs) ys e = cc

  pub none_passes : (m : ℕ) → filter p (up_to m) ≡ [] → (i : ℕ) → 0 < i → i ≤ m → p i ≡ false
  none_passes zero none i above within = absurd (omega arith)
  none_passes (suc m) none i above within =
      elim (cases_Bool (p (suc m))) [
        | inl passes ↦
            let empty : suc m ∷ [] ≡ [] = (front_empty (filter p (up_to m)) (suc m ∷ []) (sym (passed_more m passes) ∙ none)).1 in
            cc
        | inr fails ↦
            let older = (front_empty (filter p (up_to m)) [] (sym (failed_more m fails) ∙ none)).0 in
            elim (cases_eq i (suc m)) [
              | inl is ↦ ap p is ∙ fails
              | inr other ↦ none_passes m older i above (omega arith)
            ]
      ]

  pub passes_none : (m : ℕ) → ((i : ℕ) → 0 < i → i ≤ m → p i ≡ false) → filter p (up_to m) ≡ []
  passes_none zero none = refl
  passes_none (suc m) none =
      failed_more m (none (suc m) (omega arith) (omega arith))
      ∙ ap (λ (l : List ℕ). l ++ []) (passes_none m (λ i above within. none i above (omega arith)))

  -- the first number that passes
  pub record IsFirst (m n : ℕ) : Type 0 where
    pub within : n ≤ m
    pub above : 0 < n
    pub passes : p n ≡ true
    pub least : (i : ℕ) → 0 < i → i < n → p i ≡ false

  first_step : (m n : ℕ) → IsFirst m n → IsFirst (suc m) n
  first_step m n first =
      record { within = omega (arith, first.within); above = first.above; passes = first.passes; least = first.least }

  first_of_step : (m n : ℕ) (rest : List ℕ) → ((r : List ℕ) → filter p (up_to m) ≡ n ∷ r → IsFirst m n) →
      filter p (up_to (suc m)) ≡ n ∷ rest → (l : List ℕ) → filter p (up_to m) ≡ l → (p (suc m) ≡ true) ⊎ (p (suc m) ≡ false) →
      IsFirst (suc m) n
  first_of_step m n rest older is (x ∷ l) older_is _ =
      let same : x ≡ n = elim (cases_Bool (p (suc m))) [
        | inl passes ↦ cc (passed_more m passes)
        | inr fails ↦ cc (failed_more m fails)
      ] in
      first_step m n (older l (older_is ∙ ap (λ (y : ℕ). y ∷ l) same))
  first_of_step m n rest older is [] older_is (inl passes) =
      let newest : [] ++ suc m ∷ [] ≡ n ∷ rest = ap (λ (l : List ℕ). l ++ suc m ∷ []) (sym older_is) ∙ sym (passed_more m passes) ∙ is in
      let same : suc m ≡ n = cc in
      let none = none_passes m older_is in
      record {
        within = omega arith;
        above = omega arith;
        passes = ap p (sym same) ∙ passes;
        least = λ i above below. none i above (omega arith);
      }
  first_of_step m n rest older is [] older_is (inr fails) =
      let empty : [] ++ [] ≡ n ∷ rest = ap (λ (l : List ℕ). l ++ []) (sym older_is) ∙ sym (failed_more m fails) ∙ is in
      cc

  pub first_of_filter : (m n : ℕ) (rest : List ℕ) → filter p (up_to m) ≡ n ∷ rest → IsFirst m n
  first_of_filter zero n rest is = cc
  first_of_filter (suc m) n rest is =
      first_of_step m n rest (λ r. first_of_filter m n r) is (filter p (up_to m)) refl (cases_Bool (p (suc m)))

  -- where the test passes at a number, and at no smaller one, it is the first
  pub filter_of_first : (m n : ℕ) → IsFirst m n → (rest : List ℕ) × (filter p (up_to m) ≡ n ∷ rest)
  filter_of_first zero n first = absurd (omega (arith, first.above, first.within))
  filter_of_first (suc m) n first =
      elim (cases_eq n (suc m)) [
        | inl is ↦
            let empty = passes_none m (λ i above within. first.least i above (omega arith)) in
            ([], passed_more m (ap p (sym is) ∙ first.passes) ∙ ap (λ (l : List ℕ). l ++ suc m ∷ []) empty ∙ ap (λ (x : ℕ). x ∷ []) (sym is))
        | inr other ↦
            let older = filter_of_first m n (record {
              within = omega (arith, first.within);
              above = first.above;
              passes = first.passes;
              least = first.least;
            }) in
            elim (cases_Bool (p (suc m))) [
              | inl passes ↦ (older.0 ++ suc m ∷ [], passed_more m passes ∙ ap (λ (l : List ℕ). l ++ suc m ∷ []) older.1)
              | inr fails ↦ (older.0 ++ [], failed_more m fails ∙ ap (λ (l : List ℕ). l ++ []) older.1)
            ]
      ]
