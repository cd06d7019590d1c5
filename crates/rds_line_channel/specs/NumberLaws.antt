-- Laws, each proved: proofs in other crates use them. Nothing here has to be believed.
-- At which place the stream of a number stands.
use Rattle.std.proofs.Common.{◌≡◌, ◌≢◌, ◌⊎◌, inl, inr, ℕ, zero, suc, ◌+◌, ◌<◌, ◌==◌, Bool, true, false, List, [], ◌∷◌, ◌++◌, get_or, take, Some, slice_get, refl, sym, ap, subst, ◌∙◌, arith}
use Rattle.std.specs.Option.{option_map}
use Rattle.std.proofs.lemmas.Bool.{eqb-true, eqb-false}
use Rattle.std.proofs.lemmas.List.{take_more}
use Rattle.std.proofs.lemmas.List.Kept.{AllPairs-from_increasing}
use Rattle.std.proofs.lemmas.Option.{same_Some, slice_get-map, slice_get-get_or, slice_get_within, get_or_from_slice_get}
use Rattle.rds_line_channel.specs.Streams.{AreNumbered, numbers}
use Rattle.rds_line_channel.specs.ChangeLaws.{same_length}

module _ {E : Type 0} where
  -- the number of a stream that stands at a place
  pub number_there : (list : List (ℕ × E)) (place : ℕ) (stream : ℕ × E) → slice_get list place ≡ Some stream → slice_get (numbers list) place ≡ Some stream.0
  number_there list place stream stands = slice_get-map (λ s. s.0) list place ∙ ap (option_map (λ s. s.0)) stands

  -- a stream of another list with the same numbers, at the same place, has the same number
  pub same_number : (xs ys : List (ℕ × E)) → numbers ys ≡ numbers xs → (place number : ℕ) (one : E) → slice_get xs place ≡ Some (number, one) → (other : E) × (slice_get ys place ≡ Some (number, other))
  same_number xs ys same place number one stands =
      let small = slice_get_within xs place (number, one) stands in
      let count = same_length ys xs same in
      let y = get_or ys place (number, one) in
      let there : slice_get ys place ≡ Some y = slice_get-get_or ys place (number, one) (omega arith) in
      let is : y.0 ≡ number = same_Some y.0 number (sym (number_there ys place y there) ∙ (ap (λ ns. slice_get ns place) same ∙ number_there xs place (number, one) stands)) in
      (y.1, there ∙ ap (λ n. Some (n, y.1)) is)

  -- a number stands at some place, or is no stream's
  pub stands_or_not : (number : ℕ) (list : List (ℕ × E)) → ((place : ℕ) × (one : E) × (slice_get list place ≡ Some (number, one))) ⊎ ((place : ℕ) (one : E) → slice_get list place ≢ Some (number, one))
  stands_or_not number [] = inr (λ place one stands. absurd (cc))
  stands_or_not number (x ∷ xs) = go (x.0 == number) refl (stands_or_not number xs)
    where
      go : (b : Bool) → (x.0 == number) ≡ b → ((place : ℕ) × (one : E) × (slice_get xs place ≡ Some (number, one))) ⊎ ((place : ℕ) (one : E) → slice_get xs place ≢ Some (number, one)) → ((place : ℕ) × (one : E) × (slice_get (x ∷ xs) place ≡ Some (number, one))) ⊎ ((place : ℕ) (one : E) → slice_get (x ∷ xs) place ≢ Some (number, one))
      go true e later = inl (zero, x.1, ap (λ n. Some (n, x.1)) (eqb-true x.0 number e))
      go false e (inl found) = inl (suc found.0, found.1, found.2)
      go false e (inr none) = inr not_there
        where
          not_there : (place : ℕ) (one : E) → slice_get (x ∷ xs) place ≢ Some (number, one)
          not_there zero one stands = eqb-false x.0 number e (ap (λ (s : ℕ × E). s.0) (same_Some x (number, one) stands))
          not_there (suc place) one stands = none place one stands

  -- streams at two places have two numbers
  pub later_number : (list : List (ℕ × E)) → AreNumbered list → (place later : ℕ) (one other : ℕ × E) → place < later → slice_get list place ≡ Some one → slice_get list later ≡ Some other → one.0 < other.0
  later_number list numbered place later one other before_it stands other_stands =
      let there = number_there list place one stands in
      let other_there = number_there list later other other_stands in
      let small = slice_get_within (numbers list) later other.0 other_there in
      let pair = AllPairs-from_increasing (0 ∷ numbers list) numbered (suc place) (suc later) 0 (omega arith) (omega arith) in
      subst (λ n. n < other.0) (get_or_from_slice_get (numbers list) place one.0 0 there) (subst (λ n. get_or (numbers list) place 0 < n) (get_or_from_slice_get (numbers list) later other.0 0 other_there) pair)

  -- the numbers that were opened, once the next stream is opened
  pub opened_more : (list : List (ℕ × E)) (opened number : ℕ) → slice_get (numbers list) opened ≡ Some number → take (opened + 1) (numbers list) ≡ take opened (numbers list) ++ number ∷ []
  opened_more list opened number stands =
      let small = slice_get_within (numbers list) opened number stands in
      take_more (numbers list) opened number small ∙ ap (λ n. take opened (numbers list) ++ n ∷ []) (get_or_from_slice_get (numbers list) opened number number stands)
