-- The numbers of streams.
use Rattle.std.proofs.Common.{◌≡◌, ℕ, suc, ◌<◌, List, ◌∷◌, length, get_or, take, All, Some, slice_get, sym, ap, subst, ◌∙◌, arith}
use Rattle.std.specs.Option.{option_map}
use Rattle.std.proofs.lemmas.List.{get_or-take, length-take}
use Rattle.std.proofs.lemmas.List.Kept.{AllPairs-from_increasing}
use Rattle.std.proofs.lemmas.Option.{slice_get-map, slice_get-get_or, slice_get_within, get_or_from_slice_get}
use Rattle.rds_line_channel.specs.Streams.{numbers, AreNumbered}

-- the next stream's number is above those of the streams that were opened
pub above_opened : {E : Type 0} (list : List (ℕ × E)) (opened number : ℕ) → AreNumbered list → slice_get (numbers list) opened ≡ Some number → (0 < number) × All (λ earlier. earlier < number) (take opened (numbers list))
above_opened list opened number numbered at =
    let within = slice_get_within (numbers list) opened number at in
    let pairs = AllPairs-from_increasing (0 ∷ numbers list) numbered in
    let is = λ (d : ℕ). get_or_from_slice_get (numbers list) opened number d at in (
      subst (λ n. 0 < n) (is 0) (pairs 0 (suc opened) 0 (omega arith) (omega arith)),
      λ k d small.
          let below : k < opened = omega (arith, length-take opened (numbers list)) in
          subst (λ n. n < number) (sym (get_or-take opened (numbers list) k d below)) (subst (λ n. get_or (numbers list) k d < n) (is d) (pairs (suc k) (suc opened) d (omega arith) (omega arith))),
    )

-- the number of a stream that was read by an index
pub number_read : {E : Type 0} (list : List (ℕ × E)) (place : ℕ) (stream : ℕ × E) → place < length list → stream ≡ get_or list place stream → Some stream.0 ≡ slice_get (numbers list) place
number_read list place stream within read = sym (slice_get-map (λ s. s.0) list place ∙ ap (option_map (λ s. s.0)) (slice_get-get_or list place stream within ∙ ap Some (sym read)))
