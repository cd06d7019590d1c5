-- The streams of a run before they are used, and the lines that were given them. Source: this project's own.
use Rattle.std.specs.Prelude.{◌≡◌, ℕ, suc, ◌≤◌, List, Vec, All}
use Rattle.std.specs.Global.{Global}
use Rattle.rds_link.specs.Ends.{Means}
use Rattle.rds_line.specs.Line.{LineView}
use Rattle.rds_line_channel.specs.Streams.{AreNumbered, IsUnused, numbers}
use Rattle.rds_script.specs.declared.script.Placed.{Placed}
use Rattle.rds_run_rounds.specs.Causes.{known_of}
use Rattle.rds_run_rounds.specs.Connection.{ArePaired}
use Rattle.rds_run_rounds.specs.Grid.{AreRows, IsAt, OfEachPair}
use Rattle.rds_run_rounds.specs.declared.verdict.Wanted.{Wanted}
use Rattle.rds_run_hosts.specs.Streams.{AreNumbersOf, IsKnown, streams_between}

module _ {E : Type 0} (m : Means E) where
  -- the streams of two hosts that were opened so far, with numbers up to this one
  pub record ArePrepared (newest : ℕ) (one other : List (ℕ × E)) : Type 0 where
    pub paired : ArePaired m one other
    pub one_numbered : AreNumbered one
    pub other_numbered : AreNumbered other
    pub one_most : All (λ stream. stream.0 ≤ newest) one
    pub other_most : All (λ stream. stream.0 ≤ newest) other
    pub one_unused : All (λ stream. IsUnused m stream.1) one
    pub other_unused : All (λ stream. IsUnused m stream.1) other

  -- each two of so many hosts have streams that were prepared, and none of which was used
  pub record AreAllPrepared (hosts : ℕ) (rows : List (List (Vec (ℕ × E) Global))) : Type 0 where
    pub shape : AreRows hosts rows
    pub pairs : OfEachPair (λ low high (one : Vec (ℕ × E) Global) (other : Vec (ℕ × E) Global). (newest : ℕ) × ArePrepared newest one.items other.items) rows

-- each line has streams with the numbers of those that were prepared for it
abbrev pub HaveStreamsOf : {E M : Type 0} → List (List (Vec (ℕ × E) Global)) → List (List (LineView E M)) → Type 0
HaveStreamsOf {E} {M} streams rows = (host place : ℕ) (line : LineView E M) → IsAt rows host place line →
    (list : Vec (ℕ × E) Global) × IsAt streams host place list × (numbers line.channel.streams.list ≡ numbers list.items)

module _ {E : Type 0} (commands : List Placed) (before after : ℕ) where
  -- these two hosts have the streams that were prepared for these commands, where the wire's count of faults was this before and that
  -- afterwards
  abbrev pub HaveNumbered : (low high : ℕ) → (one other : List (ℕ × E)) → Type 0
  HaveNumbered low high one other =
      AreNumbersOf (streams_between low high commands) before after (numbers one) × AreNumbersOf (streams_between low high commands) before after (numbers other)

  -- so have each two hosts
  abbrev pub AreAllCounted : List (List (Vec (ℕ × E) Global)) → Type 0
  AreAllCounted rows = OfEachPair (λ low high (one : Vec (ℕ × E) Global) (other : Vec (ℕ × E) Global). HaveNumbered low high one.items other.items) rows

  -- and so have the lines of each two
  abbrev pub HaveCounted : {M : Type 0} → List (List (LineView E M)) → Type 0
  HaveCounted {M} rows =
      OfEachPair (λ low high (one : LineView E M) (other : LineView E M). HaveNumbered low high one.channel.streams.list other.channel.streams.list) rows

-- what is known of each two hosts is true of the streams that the lower one has to the higher one
abbrev pub AreAllKnown : {E : Type 0} → List Placed → List (List Wanted) → List (List (Vec (ℕ × E) Global)) → Type 0
AreAllKnown {E} commands wanted rows = (low place : ℕ) (list : Vec (ℕ × E) Global) → low ≤ place → IsAt rows low place list →
    IsKnown commands low (suc place) (known_of wanted low (suc place)) (numbers list.items)
