-- The ends of the streams that were prepared.
use Rattle.std.proofs.Common.{◌≡◌, ℕ, ◌+◌, ◌<◌, List, Vec, [], ◌∷◌, ◌++◌, Some, length, set, get_or, slice_get, ap, ◌∙◌, arith}
use Rattle.std.specs.Global.{Global}
use Rattle.std.proofs.lemmas.List.{map-append, map-set}
use Rattle.std.proofs.lemmas.List.Sums.{sum_by_push, sum_by-set}
use Rattle.std.proofs.lemmas.Option.{get_or_from_slice_get, slice_get_within}
use Rattle.rds_run_rounds.specs.Grid.{rows_of}
use Rattle.rds_run_hosts.proofs.At.{length_map, map_at, stands_at}
use Rattle.rds_run_hosts.specs.Held.{ends_of_row, ends_prepared}

-- two hosts more have some
pub ends_grown : {E : Type 0} (host : ℕ) (rows : List (List (Vec (ℕ × E) Global))) (stood row own : List (Vec (ℕ × E) Global)) (one other : Vec (ℕ × E) Global) →
    slice_get rows host ≡ Some stood → own ≡ row ++ other ∷ [] →
    ends_prepared (set rows host (stood ++ one ∷ [])) + ends_of_row own
    ≡ (ends_prepared rows + ends_of_row row) + (length one.items + length other.items)
ends_grown {E} host rows stood row own one other at is =
    let count : Vec (ℕ × E) Global → ℕ = λ list. length list.items in
    let more = sum_by-set ends_of_row rows host (stood ++ one ∷ []) stood (slice_get_within rows host stood at) in
    let here = ap ends_of_row (get_or_from_slice_get rows host stood stood at) in
    let behind = sum_by_push count stood one in
    let beside = ap ends_of_row is in
    let last = sum_by_push count row other in
    omega (arith, more, here, behind, beside, last)

-- a host more has some
pub prepared_more : {E : Type 0} (rows : List (Vec (Vec (ℕ × E) Global) Global)) (row : Vec (Vec (ℕ × E) Global) Global) →
    ends_prepared (rows_of (rows ++ row ∷ [])) ≡ ends_prepared (rows_of rows) + ends_of_row row.items
prepared_more {E} rows row =
    ap ends_prepared (map-append (λ (v : Vec (Vec (ℕ × E) Global) Global). v.items) rows (row ∷ [])) ∙ sum_by_push ends_of_row (rows_of rows) row.items

-- a host has the same as before
pub ends_still : {E : Type 0} (rows : List (Vec (Vec (ℕ × E) Global) Global)) (place host : ℕ) (stood now : Vec (Vec (ℕ × E) Global) Global) → place ≡ host →
    host < length rows → stood ≡ get_or rows place stood → now.items ≡ stood.items → ends_prepared (rows_of (set rows place now)) ≡ ends_prepared (rows_of rows)
ends_still {E} rows place host stood now is within stands same =
    let more = sum_by-set ends_of_row (rows_of rows) place now.items stood.items
    (let size = length_map (λ (v : Vec (Vec (ℕ × E) Global) Global). v.items) rows in omega (arith, size, within, is)) in
    let there = stands_at rows place stood (omega (arith, within, is)) stands in
    let here = ap ends_of_row (get_or_from_slice_get (rows_of rows) place stood.items stood.items (map_at (λ (v : Vec (Vec (ℕ × E) Global) Global). v.items) rows place stood there)) in
    let still = ap ends_of_row same in
    let set_is = ap ends_prepared (map-set (λ (v : Vec (Vec (ℕ × E) Global) Global). v.items) rows place now) in
    omega (arith, more, here, still, set_is)

-- the ends of two hosts were put behind the others
pub ends_put : {E : Type 0} (rows : List (Vec (Vec (ℕ × E) Global) Global)) (place host : ℕ) (stood now : Vec (Vec (ℕ × E) Global) Global)
    (row own : List (Vec (ℕ × E) Global)) (one other : Vec (ℕ × E) Global) → place ≡ host → host < length rows → stood ≡ get_or rows place stood →
    now.items ≡ stood.items ++ one ∷ [] → own ≡ row ++ other ∷ [] →
    ends_prepared (rows_of (set rows place now)) + ends_of_row own
    ≡ (ends_prepared (rows_of rows) + ends_of_row row) + (length one.items + length other.items)
ends_put {E} rows place host stood now row own one other is within stands more beside =
    let there = map_at (λ (v : Vec (Vec (ℕ × E) Global) Global). v.items) rows place stood (stands_at rows place stood (omega (arith, within, is)) stands) in
    let grown = ends_grown place (rows_of rows) stood.items row own one other there beside in
    let lower = ap ends_prepared (map-set (λ (v : Vec (Vec (ℕ × E) Global) Global). v.items) rows place now ∙ ap (set (rows_of rows) place) more) in
    omega (arith, grown, lower)
