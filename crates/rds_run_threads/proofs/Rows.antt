-- The rows of hosts, and which peer each place of one stands for.
use Rattle.std.proofs.Common.{◌≡◌, ◌≢◌, ◌≤◌, ◌<◌, ◌+◌, ℕ, suc, List, [], ◌∷◌, Some, Vec, inl, inr, get_or, length, map, nat_lt, option_map, slice_get, refl, ap, ◌∙◌, arith}
use Rattle.std.specs.Global.{Global}
use Rattle.std.specs.List.{range_with_len}
use Rattle.std.proofs.lemmas.Bool.{cases_lt, cond-false, cond-true, le-ltb, lt-ltb}
use Rattle.std.proofs.lemmas.List.{length-map}
use Rattle.std.proofs.lemmas.Option.{slice_get-map, slice_get_read, slice_get_within}
use Rattle.rds_run_rounds.specs.Grid.{AreRows, IsAt, peer_at, rows_of}
use Rattle.rds_run_threads.proofs.At.{all_at, some_at}

-- the row that a vector of a list holds
pub row_at : {T : Type 0} (lists : List (Vec T Global)) (host : ℕ) (list : Vec T Global) → slice_get lists host ≡ Some list →
    slice_get (rows_of lists) host ≡ Some list.items
row_at {T} lists host list at =
    slice_get-map (λ (v : Vec T Global). v.items) lists host ∙ ap (option_map (λ (v : Vec T Global). v.items)) at

pub rows_count : {T : Type 0} (lists : List (Vec T Global)) → length (rows_of lists) ≡ length lists
rows_count {T} lists = length-map lists (λ (v : Vec T Global). v.items)

-- what is read at a place of a list stands there
pub read_at : {T : Type 0} (xs : List T) (i j : ℕ) (x : T) → i ≡ j → j < length xs → x ≡ get_or xs i x → slice_get xs j ≡ Some x
read_at xs i j x same within is = slice_get_read xs (length xs) j x refl within (is ∙ ap (λ (n : ℕ). get_or xs n x) same)

-- the peer at a place before the host's own number, or from there on
pub peer_before : (host place : ℕ) → place < host → peer_at host place ≡ place
peer_before host place before = cond-true (nat_lt place host) place (suc place) (lt-ltb place host before)

pub peer_after : (host place : ℕ) → host ≤ place → peer_at host place ≡ suc place
peer_after host place after = cond-false (nat_lt place host) place (suc place) (le-ltb place host after)

-- no place is that of the host itself
pub peer_apart : (host place : ℕ) → peer_at host place ≢ host
peer_apart host place same =
    elim (cases_lt place host) [
      | inl before ↦ let is = peer_before host place before in absurd (omega (arith, is, same, before))
      | inr after ↦ let is = peer_after host place after in absurd (omega (arith, is, same, after))
    ]

-- the peers of a row ascend
pub peers_ascend : (host i j : ℕ) → i < j → peer_at host i < peer_at host j
peers_ascend host i j less =
    elim (cases_lt i host) [
      | inl low ↦ elim (cases_lt j host) [
        | inl high ↦ let a = peer_before host i low in let b = peer_before host j high in omega (arith, a, b, less)
        | inr high ↦ let a = peer_before host i low in let b = peer_after host j high in omega (arith, a, b, less)
      ]
      | inr low ↦ let a = peer_after host i low in let b = peer_after host j (omega (arith, low, less)) in omega (arith, a, b, less)
    ]

-- and are within the hosts
pub peer_within : (hosts host place : ℕ) → suc place < hosts → peer_at host place < hosts
peer_within hosts host place within =
    elim (cases_lt place host) [
      | inl before ↦ let is = peer_before host place before in omega (arith, is, within)
      | inr after ↦ let is = peer_after host place after in omega (arith, is, within)
    ]

-- a peer has one place
pub place_is : (host i j : ℕ) → peer_at host i ≡ peer_at host j → i ≡ j
place_is host i j same =
    elim (cases_lt i j) [
      | inl less ↦ let up = peers_ascend host i j less in absurd (omega (arith, up, same))
      | inr more ↦ elim (cases_lt j i) [
        | inl less ↦ let up = peers_ascend host j i less in absurd (omega (arith, up, same))
        | inr least ↦ omega (arith, more, least)
      ]
    ]

module _ {T : Type 0} (hosts : ℕ) (rows : List (List T)) (shape : AreRows hosts rows) where
  pub row_length : (host : ℕ) (row : List T) → slice_get rows host ≡ Some row → suc (length row) ≡ hosts
  row_length host row at = all_at (λ (r : List T). suc (length r) ≡ hosts) rows host row shape.each at

  pub host_within : (host : ℕ) (row : List T) → slice_get rows host ≡ Some row → host < hosts
  host_within host row at = let within = slice_get_within rows host row at in let count = shape.count in omega (arith, within, count)

  pub place_within : (host place : ℕ) (x : T) → IsAt rows host place x → suc place < hosts
  place_within host place x (row, at_row, at) =
      let within = slice_get_within row place x at in
      let long = row_length host row at_row in
      omega (arith, within, long)

  -- each host has something at each place
  pub stands : (host place : ℕ) → host < hosts → suc place < hosts → (x : T) × IsAt rows host place x
  stands host place known within =
      let count = shape.count in
      let row = some_at rows host (omega (arith, known, count)) in
      let long = row_length host row.0 row.1 in
      let x = some_at row.0 place (omega (arith, within, long)) in
      (x.0, (row.0, row.1, x.1))

-- a list by what stands at each place
pub numbered : {T : Type 0} (f : T → ℕ) (number : ℕ → ℕ) (from : ℕ) (xs : List T) →
    ((place : ℕ) (x : T) → slice_get xs place ≡ Some x → f x ≡ number (from + place)) → map f xs ≡ map number (range_with_len from (length xs))
numbered f number from [] each = refl
numbered f number from (x ∷ xs) each =
    let here : f x ≡ number from = each 0 x refl ∙ ap number (omega arith) in
    (λ i. here i ∷ map f xs)
    ∙ ap (λ (l : List ℕ). number from ∷ l)
    (numbered f number (from + 1) xs (λ place y at. each (suc place) y at ∙ ap number (omega arith)))
