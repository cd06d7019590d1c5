-- How the streams of a run grow by one host.
use Rattle.std.proofs.Common.{◌≡◌, ⊎_elim, ℕ, suc, ◌+◌, ◌<◌, ◌≤◌, List, [], ◌∷◌, ◌++◌, Some, length, set, slice_get, get_or, refl, sym, ap, subst, ◌∙◌, arith}
use Rattle.std.proofs.lemmas.List.{length-set, length_push}
use Rattle.std.proofs.lemmas.List.Elements.{All-nil, All-cons, All-append}
use Rattle.std.proofs.lemmas.Option.{same_Some, slice_get_within, slice_get-get_or}
use Rattle.rds_run_rounds.specs.Grid.{AreRows, IsAt, OfEachPair}
use Rattle.rds_run_hosts.proofs.At.{at_set_any, at_snoc}

module _ {T : Type 0} (Holds : ℕ → ℕ → T → T → Type 0) where
  -- A host more is being added, so far to the rows of the hosts below this one. Its own row has what it has for those.
  pub record IsHalfway (host low : ℕ) (rows : List (List T)) (own : List T) : Type 0 where
    pub count : length rows ≡ host
    pub done : (i : ℕ) (row : List T) → i < low → slice_get rows i ≡ Some row → length row ≡ host
    pub rest : (i : ℕ) (row : List T) → low ≤ i → slice_get rows i ≡ Some row → suc (length row) ≡ host
    pub pairs : OfEachPair Holds rows
    pub later : length own ≡ low
    pub new : (i place : ℕ) (one other : T) → suc place ≡ host → IsAt rows i place one → slice_get own i ≡ Some other → Holds i host one other

  pub halfway_start : (host : ℕ) (rows : List (List T)) → AreRows host rows → OfEachPair Holds rows → IsHalfway host 0 rows []
  halfway_start host rows shape pairs = record {
    count = shape.count;
    done = λ i row below at. absurd (omega (arith, below));
    rest = λ i row above at. subst (λ (r : List T). suc (length r) ≡ host) (at_row i row at) (shape.each i row (slice_get_within rows i row at));
    pairs = pairs;
    later = refl;
    new = λ i place one other last at_one at_other. absurd (cc);
  }
    where
      at_row : (i : ℕ) (row : List T) → slice_get rows i ≡ Some row → get_or rows i row ≡ row
      at_row i row at = same_Some (get_or rows i row) row (sym (slice_get-get_or rows i row (slice_get_within rows i row at)) ∙ at)

  module _ (host low : ℕ) (rows : List (List T)) (own stood : List T) (one other : T) (below : low < host) (at_low : slice_get rows low ≡ Some stood)
      (pair : Holds low host one other) (h : IsHalfway host low rows own) where
    -- what stands in the rows but at the last place stood there
    old_cell : (i place : ℕ) (x : T) → suc place < host → IsAt (set rows low (stood ++ one ∷ [])) i place x → IsAt rows i place x
    old_cell i place x within at = ⊎_elim
        (λ here. ⊎_elim
        (λ old. (stood, subst (λ k. slice_get rows k ≡ Some stood) (sym here.0) at_low, old))
        (λ new. let size = h.rest low stood (omega arith) at_low in absurd (omega (arith, size, new.0, within)))
        (at_snoc stood one place x (subst (λ (r : List T). slice_get r place ≡ Some x) here.1 at.2)))
        (λ there. (at.0, there.1, at.2))
        (at_set_any rows low (stood ++ one ∷ []) i at.0 at.1)

    count_after : length (set rows low (stood ++ one ∷ [])) ≡ host
    count_after = length-set rows low (stood ++ one ∷ []) ∙ h.count

    pub halfway_more : IsHalfway host (suc low) (set rows low (stood ++ one ∷ [])) (own ++ other ∷ [])
    halfway_more = record {
      count = count_after;
      done = λ i row lower at. ⊎_elim
          (λ here. let size = h.rest low stood (omega arith) at_low in let more = length_push stood one in
          ap length here.1 ∙ omega (arith, size, more))
          (λ there. let ne = there.0 in h.done i row (omega (arith, lower, ne)) there.1)
          (at_set_any rows low (stood ++ one ∷ []) i row at);
      rest = λ i row above at. ⊎_elim
          (λ here. absurd (omega (arith, here.0, above)))
          (λ there. h.rest i row (omega (arith, above)) there.1)
          (at_set_any rows low (stood ++ one ∷ []) i row at);
      pairs = λ l place a b le at_a at_b.
          let within = slice_get_within (set rows low (stood ++ one ∷ [])) (suc place) at_b.0 at_b.1 in
          let count = count_after in
          h.pairs l place a b le (old_cell l place a (omega (arith, within, count)) at_a) (old_cell (suc place) l b (omega (arith, within, count, le)) at_b);
      later = length_push own other ∙ ap (λ n. n + 1) h.later ∙ omega arith;
      new = λ i place a b last at_a at_b. ⊎_elim
          (λ old. ⊎_elim
          (λ here. let within = slice_get_within own i b old in let size = h.later in absurd (omega (arith, within, size, here.0)))
          (λ there. h.new i place a b last (at_a.0, there.1, at_a.2) old)
          (at_set_any rows low (stood ++ one ∷ []) i at_a.0 at_a.1))
          (λ new. ⊎_elim
          (λ here. ⊎_elim
          (λ old. let within = slice_get_within stood place a old in let size = h.rest low stood (omega arith) at_low in
          absurd (omega (arith, within, size, last)))
          (λ same. subst (λ (x : T). Holds i host x b) (sym same.1) (subst (λ (y : T). Holds i host one y) (sym new.1)
          (subst (λ k. Holds k host one other) (sym here.0) pair)))
          (at_snoc stood one place a (subst (λ (r : List T). slice_get r place ≡ Some a) here.1 at_a.2)))
          (λ there. let size = h.later in let at = new.0 in absurd (there.0 (at ∙ size)))
          (at_set_any rows low (stood ++ one ∷ []) i at_a.0 at_a.1))
          (at_snoc own other i b at_b);
    }

  module _ (host : ℕ) (rows : List (List T)) (own : List T) (h : IsHalfway host host rows own) where
    pub halfway_rows : AreRows (suc host) (rows ++ own ∷ [])
    halfway_rows = record {
      count = length_push rows own ∙ ap (λ n. n + 1) h.count ∙ omega arith;
      each = All-append (λ (row : List T). suc (length row) ≡ suc host) rows (own ∷ [])
          (λ i row within. ap suc (h.done i (get_or rows i row) (let count = h.count in omega (arith, within, count)) (slice_get-get_or rows i row within)))
          (All-cons (λ (row : List T). suc (length row) ≡ suc host) own [] (ap suc h.later) (All-nil (λ (row : List T). suc (length row) ≡ suc host)));
    }

    pub halfway_pairs : OfEachPair Holds (rows ++ own ∷ [])
    halfway_pairs low place one other le at_one at_other = ⊎_elim
        (λ lower. ⊎_elim
        (λ higher. h.pairs low place one other le (at_one.0, lower, at_one.2) (at_other.0, higher, at_other.2))
        (λ last. let size = h.count in
        subst (λ n. Holds low n one other) (sym (last.0 ∙ size))
        (h.new low place one other (last.0 ∙ size) (at_one.0, lower, at_one.2) (subst (λ (r : List T). slice_get r low ≡ Some other) last.1 at_other.2)))
        (at_snoc rows own (suc place) at_other.0 at_other.1))
        (λ last. ⊎_elim
        (λ higher. let within = slice_get_within rows (suc place) at_other.0 higher in absurd (omega (arith, within, last.0, le)))
        (λ other_last. absurd (omega (arith, other_last.0, last.0, le)))
        (at_snoc rows own (suc place) at_other.0 at_other.1))
        (at_snoc rows own low at_one.0 at_one.1)
