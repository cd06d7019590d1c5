-- How many numbers are alive in the journals of hosts, and where none is.
use Rattle.std.proofs.Common.{◌≡◌, ◌+◌, ℕ, zero, suc, List, [], ◌∷◌, Some, length, map, slice_get, sum_by, refl, sym, ap, subst, ◌∙◌, arith}
use Rattle.std.proofs.lemmas.List.Sums.{sum_by-cons}
use Rattle.std.proofs.lemmas.Option.{same_Some}
use Rattle.rds_fmap.specs.Readers.{WriterView}
use Rattle.rds_model.specs.Alive.{alive_numbers}
use Rattle.rds_line.specs.Line.{LineView}
use Rattle.rds_host_end.specs.Sides.{line_side}
use Rattle.rds_run_callers.specs.Places.{CallerView}
use Rattle.rds_text.specs.FinalState.{FinalHost, FinalJournal}
use Rattle.rds_text.specs.FinalViews.{host_view, host_views}
use Rattle.rds_text.specs.declared.final_state.HostEnd.{HostEnd}
use Rattle.rds_run_rounds.specs.Causes.{alive_in_line, alive_in_row, alive_in_rows}
use Rattle.rds_run_rounds.specs.Grid.{IsAt}
use Rattle.rds_run_threads.specs.Causes.{alive_in_end, alive_in_ends, alive_in_side}
use Rattle.rds_run_threads.specs.Ends.{AreDrainedHosts, OfEachJournals}
use Rattle.rds_run_threads.specs.Settled.{AreLeftOf}
use Rattle.rds_run_threads.proofs.At.{at_map, stood_at}

module _ {E : Type 0} where
  -- in those of a host's lines
  in_sides : (lines : List (LineView E WriterView)) → sum_by alive_in_side (map line_side lines) ≡ sum_by alive_in_line lines
  in_sides [] = refl
  in_sides (line ∷ lines) =
      sum_by-cons alive_in_side (line_side line) (map line_side lines)
      ∙ ap (λ (n : ℕ). alive_in_line line + n) (in_sides lines)
      ∙ sym (sum_by-cons alive_in_line line lines)

  -- and in those of each host's
  in_hosts : (rows : List (List (LineView E WriterView))) (ends : List HostEnd) → length ends ≡ length rows →
      ((host : ℕ) (row : List (LineView E WriterView)) (end : HostEnd) → slice_get rows host ≡ Some row → slice_get ends host ≡ Some end →
      alive_in_end (host_view end) ≡ alive_in_row row) → alive_in_ends (host_views ends) ≡ alive_in_rows rows
  in_hosts [] [] same each = refl
  in_hosts [] (end ∷ ends) same each = absurd (omega (arith, same))
  in_hosts (row ∷ rows) [] same each = absurd (omega (arith, same))
  in_hosts (row ∷ rows) (end ∷ ends) same each =
      sum_by-cons alive_in_end (host_view end) (host_views ends)
      ∙ ap (λ (n : ℕ). n + alive_in_ends (host_views ends)) (each 0 row end refl refl)
      ∙ ap (λ (n : ℕ). alive_in_row row + n) (in_hosts rows ends (omega (arith, same)) (λ host r e at at_end. each (suc host) r e at at_end))
      ∙ sym (sum_by-cons alive_in_row row rows)

  -- what is left of hosts has as many alive as their lines
  pub alive_left : (callers : List CallerView) (rows : List (List (LineView E WriterView))) (ends : List HostEnd) → length callers ≡ length rows →
      AreLeftOf callers rows ends → alive_in_ends (host_views ends) ≡ alive_in_rows rows
  alive_left callers rows ends same left =
      in_hosts rows ends left.count
      (λ host row end at at_end.
      let caller = stood_at callers rows host row (sym same) at in
      ap (sum_by alive_in_side) (left.each host caller.0 row end caller.1 at at_end).journals ∙ in_sides row)

-- each number of a sum that is 0
none_at : {T : Type 0} (f : T → ℕ) (xs : List T) (i : ℕ) (x : T) → slice_get xs i ≡ Some x → sum_by f xs ≡ 0 → f x ≡ 0
none_at f [] i x at none = absurd (cc)
none_at f (y ∷ xs) zero x at none =
    let all = sum_by-cons f y xs in
    let same = ap f (same_Some y x at) in
    omega (arith, all, same, none)
none_at f (y ∷ xs) (suc i) x at none = let all = sum_by-cons f y xs in none_at f xs i x at (omega (arith, all, none))

no_numbers : (numbers : List ℕ) → length numbers ≡ 0 → numbers ≡ []
no_numbers [] none = refl
no_numbers (n ∷ numbers) none = absurd (omega (arith, none))

-- no number is alive in the journals of any two hosts
abbrev pub AreSilent : List FinalHost → Type 0
AreSilent ends = OfEachJournals (λ low high one other. (alive_numbers one ≡ []) × (alive_numbers other ≡ [])) ends

-- none is where nothing is left to do between them
pub silent_drained : (ends : List FinalHost) → AreDrainedHosts ends → AreSilent ends
silent_drained ends drained low place one other least at at_other =
    let settled = (drained low place one other least at at_other).settled in
    (settled.none_alive_a, settled.none_alive_b)

-- and none is where none is counted
silent_side : (ends : List FinalHost) → alive_in_ends ends ≡ 0 → (host place : ℕ) (side : FinalJournal) → IsAt (map (λ (x : FinalHost). x.sides) ends) host place side →
    alive_numbers side.past ≡ []
silent_side ends none host place side (sides, at, at_side) =
    let end = at_map (λ (x : FinalHost). x.sides) ends host sides at in
    let of_end = none_at alive_in_end ends host end.0 end.1 none in
    no_numbers (alive_numbers side.past)
    (none_at alive_in_side sides place side at_side (subst (λ (l : List FinalJournal). sum_by alive_in_side l ≡ 0) (sym end.2) of_end))

pub silent_counted : (ends : List FinalHost) → alive_in_ends ends ≡ 0 → AreSilent ends
silent_counted ends none low place one other least at at_other = (silent_side ends none low place one at, silent_side ends none (suc place) low other at_other)
