-- Laws, each proved: proofs in other crates use them. Nothing here has to be believed.
-- How the ends that hosts hold add up.
use Rattle.std.proofs.Common.{◌≡◌, ℕ, suc, List, [], ◌∷◌, Some, length, slice_get, refl, sym, ap, ◌∙◌, arith}
use Rattle.std.specs.List.{sum_by}
use Rattle.std.proofs.lemmas.List.{length-map}
use Rattle.std.proofs.lemmas.List.Sums.{sum_by-cons}
use Rattle.rds_fmap.specs.Readers.{WriterView}
use Rattle.rds_line.specs.Line.{LineView}
use Rattle.rds_line_channel.specs.Streams.{numbers}
use Rattle.rds_host.specs.Held.{ends_in, ends_of, ends_of_all}
use Rattle.rds_run_rounds.specs.Connection.{AreSameConnections}
use Rattle.rds_run_rounds.specs.Grid.{EachRow}
use Rattle.rds_run_rounds.specs.Quiet.{LinesGoOn}

-- as many at each place
pub as_many_each : {X Y : Type 0} (f : X → ℕ) (g : Y → ℕ) (xs : List X) (ys : List Y) → length ys ≡ length xs →
    ((place : ℕ) (x : X) (y : Y) → slice_get xs place ≡ Some x → slice_get ys place ≡ Some y → g y ≡ f x) → sum_by g ys ≡ sum_by f xs
as_many_each f g [] [] count each = refl
as_many_each f g [] (y ∷ ys) count each = absurd (omega (arith, count))
as_many_each f g (x ∷ xs) [] count each = absurd (omega (arith, count))
as_many_each f g (x ∷ xs) (y ∷ ys) count each =
    let first = each 0 x y refl refl in
    let rest = as_many_each f g xs ys (omega (arith, count)) (λ place a b at there. each (suc place) a b at there) in
    let one = sum_by-cons f x xs in
    let other = sum_by-cons g y ys in
    omega (arith, first, rest, one, other)

module _ {E M : Type 0} where
  -- a line with streams of the same numbers holds as many ends
  pub as_many : (line later : LineView E M) → numbers later.channel.streams.list ≡ numbers line.channel.streams.list → ends_of later ≡ ends_of line
  as_many line later same =
      sym (length-map later.channel.streams.list (λ stream. stream.0)) ∙ ap length same ∙ length-map line.channel.streams.list (λ stream. stream.0)

  -- and so do rows of such lines
  pub all_as_many : (Same : List (LineView E M) → List (LineView E M) → Type 0) (rows new : List (List (LineView E M))) → EachRow Same rows new →
      ((old now : List (LineView E M)) → Same old now → (length now ≡ length old)
      × ((place : ℕ) (line after : LineView E M) → slice_get old place ≡ Some line → slice_get now place ≡ Some after →
      numbers after.channel.streams.list ≡ numbers line.channel.streams.list)) → ends_of_all new ≡ ends_of_all rows
  all_as_many Same rows new each law =
      as_many_each ends_in ends_in rows new each.count (λ host row after was is.
      let same = law row after (each.each host row after was is) in
      as_many_each ends_of ends_of row after same.0 (λ place line later at there. as_many line later (same.1 place line later at there)))

-- lines of the same connections, and lines that go on, hold as many
pub kept_as_many : {E M : Type 0} (rows new : List (List (LineView E M))) → EachRow AreSameConnections rows new → ends_of_all new ≡ ends_of_all rows
kept_as_many {E} rows new same =
    all_as_many AreSameConnections rows new same
    (λ old now kept. (kept.count, λ place line later at is. ap (λ (l : List (ℕ × E)). numbers l) (kept.each place line later at is).streams))

pub going_as_many : {E : Type 0} (rows new : List (List (LineView E WriterView))) → EachRow LinesGoOn rows new → ends_of_all new ≡ ends_of_all rows
going_as_many rows new goes =
    all_as_many LinesGoOn rows new goes (λ old now go. (go.count, λ place line later at is. (go.each place line later at is).numbers))
