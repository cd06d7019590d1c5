-- Each line of a run has a partner: the line back to its host.
use Rattle.std.proofs.Common.{◌≡◌, ◌⊎◌, inl, inr, ℕ, zero, suc, ◌<◌, ◌≤◌, List, [], ◌∷◌, length, get_or, Some, slice_get, refl, ap, subst, ◌∙◌, arith}
use Rattle.std.proofs.lemmas.Bool.{cases_lt}
use Rattle.std.proofs.lemmas.List.Elements.{All-get_or}
use Rattle.std.proofs.lemmas.Option.{get_or_from_slice_get, slice_get-get_or, slice_get_within}
use Rattle.std.specs.List.{All}
use Rattle.rds_run_rounds.specs.Grid.{AreRows, EachRow, IsAt}
use Rattle.rds_run_rounds.specs.Sweep.{HasAsMany}
use Rattle.rds_run_rounds.proofs.Going.{stood_at}

-- what holds of each
pub all_at : {X : Type 0} (P : X → Type 0) (xs : List X) (place : ℕ) (x : X) → All P xs → slice_get xs place ≡ Some x → P x
all_at P xs place x all at = subst P (get_or_from_slice_get xs place x x at) (All-get_or P xs place x (slice_get_within xs place x at) all)

pub all_of : {X : Type 0} (P : X → Type 0) (xs : List X) → ((place : ℕ) (x : X) → slice_get xs place ≡ Some x → P x) → All P xs
all_of P xs each = λ place x within. each place (get_or xs place x) (slice_get-get_or xs place x within)

-- something is at each place of a list
there_is : {X : Type 0} (xs : List X) (place : ℕ) → place < length xs → (x : X) × (slice_get xs place ≡ Some x)
there_is [] place within = absurd (omega (arith, within))
there_is (x ∷ xs) zero within = (x, refl)
there_is (x ∷ xs) (suc place) within = there_is xs place (omega (arith, within))

module _ {T : Type 0} where
  -- the rows of a run keep their shape where none changes its length
  pub rows_keep : (hosts : ℕ) (old new : List (List T)) → AreRows hosts old → EachRow HasAsMany old new → AreRows hosts new
  rows_keep hosts old new are lengths = record {
    count = lengths.count ∙ are.count;
    each = all_of (λ (row : List T). suc (length row) ≡ hosts) new
        (λ host row at.
        let was = stood_at old new host row lengths.count at in
        ap suc (lengths.each host was.0 row was.1 at) ∙ all_at (λ (r : List T). suc (length r) ≡ hosts) old host was.0 are.each was.1);
  }

  -- there is something at each place of each host
  pub is_there : (hosts : ℕ) (rows : List (List T)) → AreRows hosts rows → (host place : ℕ) → host < hosts → suc place < hosts → (x : T) × IsAt rows host place x
  is_there hosts rows are host place within less =
      let row = there_is rows host (omega (arith, within, are.count)) in
      let full = all_at (λ (r : List T). suc (length r) ≡ hosts) rows host row.0 are.each row.1 in
      let thing = there_is row.0 place (omega (arith, full, less)) in
      (thing.0, (row.0, row.1, thing.1))

  -- the line of the lower host, or of the higher one
  abbrev pub HasPartner : List (List T) → (host place : ℕ) → Type 0
  HasPartner rows host place =
      ((y : T) × (host ≤ place) × IsAt rows (suc place) host y)
      ⊎ ((p : ℕ) × (y : T) × (host ≡ suc p) × (place ≤ p) × IsAt rows place p y)

  pub has_partner : (hosts : ℕ) (rows : List (List T)) → AreRows hosts rows → (host place : ℕ) (x : T) → IsAt rows host place x → HasPartner rows host place
  has_partner hosts rows are host place x at = by_order (cases_lt place host)
    where
      within : host < hosts
      within = omega (arith, slice_get_within rows host at.0 at.1, are.count)

      less : suc place < hosts
      less = omega (arith, slice_get_within at.0 place x at.2, all_at (λ (r : List T). suc (length r) ≡ hosts) rows host at.0 are.each at.1)

      by_order : (place < host) ⊎ (host ≤ place) → HasPartner rows host place
      by_order (inr ordered) =
          let other = is_there hosts rows are (suc place) host less (omega (arith, ordered, less)) in
          inl (other.0, ordered, other.1)
      by_order (inl lower) = by_host host within lower
        where
          by_host : (h : ℕ) → h < hosts → place < h → HasPartner rows h place
          by_host zero in_run below = absurd (omega (arith, below))
          by_host (suc p) in_run below =
              let other = is_there hosts rows are place p (omega (arith, below, in_run)) in_run in
              inr (p, other.0, refl, omega (arith, below), other.1)
