-- Rows of which one thing is set.
use Rattle.std.proofs.Common.{◌≡◌, ◌⊎◌, inl, inr, ℕ, ◌<◌, List, length, set, Some, slice_get, refl, sym, ap, ◌∙◌}
use Rattle.std.proofs.lemmas.Bool.{cases_eq}
use Rattle.std.proofs.lemmas.List.{length-set}
use Rattle.std.proofs.lemmas.Option.{same_Some, slice_get_within}
use Rattle.rds_line_channel.specs.PlaceLaws.{at_set, beside_set}
use Rattle.rds_run_rounds.specs.Grid.{EachRow, IsAt}
use Rattle.rds_run_rounds.specs.Sweep.{HasAsMany}
use Rattle.rds_run_rounds.proofs.Going.{stood_at}

module _ {T : Type 0} where
  pub same_length : (rows : List (List T)) → EachRow HasAsMany rows rows
  same_length rows = record {
    count = refl;
    each = λ host row after stood stands. ap length (sym (same_Some row after (sym stood ∙ stands)));
  }

  pub length_through : (a b c : List (List T)) → EachRow HasAsMany a b → EachRow HasAsMany b c → EachRow HasAsMany a c
  length_through a b c one two = record {
    count = two.count ∙ one.count;
    each = λ host row after stood stands.
        let between = stood_at b c host after two.count stands in
        two.each host between.0 after between.1 stands ∙ one.each host row between.0 stood between.1;
  }

  -- where no row's length changed, something was at a place where something is
  pub was_at : (old new : List (List T)) → EachRow HasAsMany old new → (host place : ℕ) (x : T) → IsAt new host place x → (y : T) × IsAt old host place y
  was_at old new lengths host place x at =
      let row = stood_at old new host at.0 lengths.count at.1 in
      let there = stood_at row.0 at.0 place x (lengths.each host row.0 at.0 row.1 at.1) at.2 in
      (there.0, (row.0, row.1, there.1))

  -- one thing is at a place
  pub same_at : (rows : List (List T)) (host place : ℕ) (x y : T) → IsAt rows host place x → IsAt rows host place y → x ≡ y
  same_at rows host place x y one two =
      same_Some x y (sym one.2 ∙ ap (λ (row : List T). slice_get row place) (same_Some one.0 two.0 (sym one.1 ∙ two.1)) ∙ two.2)

  module _ (rows : List (List T)) (host : ℕ) (row : List T) (stands : slice_get rows host ≡ Some row) (place : ℕ) (x : T) where
    -- these rows with another thing at one place
    abbrev changed : List (List T)
    changed = set rows host (set row place x)

    here : slice_get changed host ≡ Some (set row place x)
    here = at_set rows host (set row place x) (slice_get_within rows host row stands)

    pub set_lengths : EachRow HasAsMany rows changed
    set_lengths = record {
      count = length-set rows host (set row place x);
      each = λ other was is stood now. by_host other was is stood now (cases_eq other host);
    }
      where
        by_host : (other : ℕ) (was is : List T) → slice_get rows other ≡ Some was → slice_get changed other ≡ Some is →
            (other ≡ host) ⊎ (other ≡ host → ⊥) → length is ≡ length was
        by_host other was is stood now (inl same) =
            ap length (same_Some is (set row place x) (sym now ∙ ap (slice_get changed) same ∙ here))
            ∙ length-set row place x
            ∙ ap length (same_Some row was (sym stands ∙ ap (slice_get rows) (sym same) ∙ stood))
        by_host other was is stood now (inr apart) =
            ap length (same_Some is was (sym now ∙ beside_set rows host other (set row place x) apart ∙ stood))

    pub at_there : place < length row → IsAt changed host place x
    at_there within = (set row place x, here, at_set row place x within)

    pub at_other : (other where_at : ℕ) (y : T) → (other ≡ host → where_at ≡ place → ⊥) → IsAt rows other where_at y → IsAt changed other where_at y
    at_other other where_at y apart at = by_host (cases_eq other host)
      where
        by_host : (other ≡ host) ⊎ (other ≡ host → ⊥) → IsAt changed other where_at y
        by_host (inl same) = (
          set row place x,
          ap (slice_get changed) same ∙ here,
          beside_set row place where_at x (apart same)
              ∙ ap (λ (r : List T). slice_get r where_at) (same_Some row at.0 (sym stands ∙ ap (slice_get rows) (sym same) ∙ at.1))
              ∙ at.2,
        )
        by_host (inr beside) = (at.0, beside_set rows host other (set row place x) beside ∙ at.1, at.2)
