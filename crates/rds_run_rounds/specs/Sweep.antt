-- Private: it serves the contracts of the private functions that turn the lines of a run for the last time. Source: this project's own.
use Rattle.std.specs.Prelude.{◌≡◌, ◌⊎◌, ◌≤◌, ◌<◌, ◌-◌, ℕ, suc, Bool, true, All, List, [], Some, length, max, min, slice_get, slice_set}
use Rattle.rds_fmap.specs.Readers.{WriterView}
use Rattle.rds_mail.specs.Learning.{AllGot}
use Rattle.rds_link.specs.Ends.{Means}
use Rattle.rds_line.specs.Line.{LineView, line_past}
use Rattle.rds_run_rounds.specs.Causes.{HasRoomForTwo, IsBefore, IsLeftWell, MissesByOrder, OneMissesStream, OwesNothing, known_of}
use Rattle.rds_run_rounds.specs.Connection.{AreConnected, IsFullAt}
use Rattle.rds_run_rounds.specs.Drained.{AreDrained}
use Rattle.rds_run_rounds.specs.Grid.{EachRow, IsAt}
use Rattle.rds_run_rounds.specs.Quiet.{LineGoesOn}
use Rattle.rds_run_rounds.specs.Sound.{AreSoundJournals}
use Rattle.rds_run_rounds.specs.declared.verdict.Round.{Round}
use Rattle.rds_run_rounds.specs.declared.verdict.Round.TheVariants as verdict
use Rattle.rds_run_rounds.specs.declared.verdict.Wanted.{Wanted}

-- a row has as many things as before
abbrev pub HasAsMany : {T : Type 0} → List T → List T → Type 0
HasAsMany {T} old new = length new ≡ length old

-- this is the one pair of two hosts, named by the lower host and the place of its line to the higher one
abbrev pub IsPair : (low high : ℕ) → (host place : ℕ) → Type 0
IsPair low high host place = (host ≡ low) × (suc place ≡ high)

-- a pair of this host with one that is higher, and below this limit
abbrev pub IsPairOf : (low limit : ℕ) → (host place : ℕ) → Type 0
IsPairOf low limit host place = (host ≡ low) × (suc place < limit)

-- a pair of a host below this one, where there are so many hosts
abbrev pub IsPairBelow : (low hosts : ℕ) → (host place : ℕ) → Type 0
IsPairBelow low hosts host place = (host < low) × (suc place < hosts)

-- a turn or a round moved or was idle
abbrev pub GoesOn : Round → Type 0
GoesOn verdict.Moved = Unit {0}
GoesOn verdict.Idle = Unit {0}
GoesOn (verdict.Fault low high) = ⊥
GoesOn (verdict.Spent host peer entries) = ⊥
GoesOn verdict.Memory = ⊥

-- it did neither
abbrev pub Stops : Round → Type 0
Stops verdict.Moved = ⊥
Stops verdict.Idle = ⊥
Stops (verdict.Fault low high) = Unit {0}
Stops (verdict.Spent host peer entries) = Unit {0}
Stops verdict.Memory = Unit {0}

-- what two turns or rounds come to together: what the first one came to if that stops them, or if the second was idle; else what the second came to
abbrev pub ComesTo : (came first second : Round) → Type 0
ComesTo came first second = ((came ≡ first) × (Stops first ⊎ (second ≡ verdict.Idle))) ⊎ ((came ≡ second) × GoesOn first)

-- The rounds came to nothing that stopped them at these two hosts: to nothing at all, or to a fault or a full journal of two that come later.
abbrev pub Passed : Round → (low high : ℕ) → Type 0
Passed verdict.Moved low high = Unit {0}
Passed verdict.Idle low high = Unit {0}
Passed (verdict.Fault first second) low high = IsBefore low high first second
Passed (verdict.Spent host peer entries) low high = IsBefore low high (min host peer) (max host peer)
Passed verdict.Memory low high = ⊥

-- no line of a host has bytes that are to be written
abbrev pub AreWritten : {E M : Type 0} → List (LineView E M) → Type 0
AreWritten {E} {M} row = All (λ (line : LineView E M). line.channel.out ≡ []) row

module _ {E : Type 0} (tells : Bool) (w : Wanted) where
  -- these are the two hosts, and one of their two lines lacks a stream that they should have
  abbrev pub MissStreamAt : (first second : ℕ) → (low high : ℕ) → (one other : LineView E WriterView) → Type 0
  MissStreamAt first second low high one other = (first ≡ low) × (second ≡ high) × OneMissesStream tells w one other

  -- Two lines had a round that ended nothing: neither was full, and where one lacks a stream that the two hosts should have, it took an order
  -- since.
  pub record HaveGoneOn (one other one_after other_after : LineView E WriterView) : Type 0 where
    pub one_room : HasRoomForTwo one
    pub other_room : HasRoomForTwo other
    pub one_misses : MissesByOrder tells w one one_after other_after
    pub other_misses : MissesByOrder tells w other other_after one_after

module _ {E : Type 0} (m : Means E) where
  -- the lines of two hosts go on, and stay connected
  pub record GoOnTogether (low high : ℕ) (one other one_after other_after : LineView E WriterView) : Type 0 where
    pub one_goes : LineGoesOn one one_after
    pub other_goes : LineGoesOn other other_after
    pub connected : (limit : ℕ) → AreConnected m limit low high one other → AreConnected m limit low high one_after other_after

  -- in the rows of two hosts, the lower host's first, stand their two lines, which are connected
  pub record AreConnectedRows (limit low high : ℕ) (lower higher : List (LineView E WriterView)) : Type 0 where
    pub one : LineView E WriterView
    pub other : LineView E WriterView
    pub one_at : slice_get lower (high - 1) ≡ Some one
    pub other_at : slice_get higher low ≡ Some other
    pub connected : AreConnected m limit low high one other

-- what is known of two hosts is this
module _ {E : Type 0} (m : Means E) (w : Wanted) where
  -- The lines of two hosts after a round of theirs: what their journals have is sound. Where the round was idle, each is left well, got all
  -- orders that it was told of, isn't full, and owes nothing where it has nothing to write. Where moreover neither has over ends that tell
  -- their bytes, the journals are drained.
  pub record HaveHadRound (Idle : Type 0) (one other : LineView E WriterView) : Type 0 where
    pub sound : AreSoundJournals m.tells (line_past one) (line_past other)
    pub left : Idle → IsLeftWell m.tells w one other × IsLeftWell m.tells w other one
    pub quiet : Idle → AllGot one.orders × AllGot other.orders
    pub room : Idle → HasRoomForTwo one × HasRoomForTwo other
    pub owes : Idle → (one.channel.out ≡ [] → OwesNothing (line_past one)) × (other.channel.out ≡ [] → OwesNothing (line_past other))
    pub drained : m.tells ≡ true → Idle → one.channel.out ≡ [] → other.channel.out ≡ [] → AreDrained (line_past one) (line_past other)

  -- The two lines of two hosts had a round, which came to this, in the rows of these hosts, the lower host's first.
  pub record RowsHadRound (low high : ℕ) (came : Round) (lower higher lower_after higher_after : List (LineView E WriterView)) : Type 0 where
    pub one : LineView E WriterView
    pub other : LineView E WriterView
    pub one_after : LineView E WriterView
    pub other_after : LineView E WriterView
    pub one_at : slice_get lower (high - 1) ≡ Some one
    pub other_at : slice_get higher low ≡ Some other
    pub lower_is : lower_after ≡ slice_set lower (high - 1) one_after
    pub higher_is : higher_after ≡ slice_set higher low other_after
    pub together : GoOnTogether m low high one other one_after other_after
    pub round : HaveHadRound (came ≡ verdict.Idle) one_after other_after
    pub gone_on : GoesOn came → HaveGoneOn m.tells w one other one_after other_after
    pub fault : (first second : ℕ) → came ≡ verdict.Fault first second → MissStreamAt m.tells w first second low high one_after other_after
    pub spent : (host peer entries : ℕ) → came ≡ verdict.Spent host peer entries → IsFullAt host peer entries low high one_after other_after

  -- What became of the two lines of two hosts: they go on. They had a round where they are among those that had one, which ended nothing where
  -- the rounds passed them; they are the same where they aren't.
  pub record PairAfter (In Idle Pass : Type 0) (low place : ℕ) (one other : LineView E WriterView) (new : List (List (LineView E WriterView))) : Type 0 where
    pub one_after : LineView E WriterView
    pub other_after : LineView E WriterView
    pub one_at : IsAt new low place one_after
    pub other_at : IsAt new (suc place) low other_after
    pub together : GoOnTogether m low (suc place) one other one_after other_after
    pub round : In → HaveHadRound Idle one_after other_after
    pub gone_on : In → Pass → HaveGoneOn m.tells w one other one_after other_after
    pub one_same : (In → ⊥) → one_after ≡ one
    pub other_same : (In → ⊥) → other_after ≡ other

-- this holds of the two lines of one of these pairs
pub record IsAmong {E : Type 0} (In : ℕ → ℕ → Type 0) (Holds : (low high : ℕ) → (one other : LineView E WriterView) → Type 0)
    (rows : List (List (LineView E WriterView))) : Type 0 where
  pub low : ℕ
  pub place : ℕ
  pub one : LineView E WriterView
  pub other : LineView E WriterView
  pub ordered : low ≤ place
  pub among : In low place
  pub one_at : IsAt rows low place one
  pub other_at : IsAt rows (suc place) low other
  pub holds : Holds low (suc place) one other

-- The two lines of each of these pairs had a round, and all other lines are the same. The rounds together came to this.
pub record AreSwept {E : Type 0} (m : Means E) (wanted : List (List Wanted)) (In : ℕ → ℕ → Type 0) (came : Round)
    (old new : List (List (LineView E WriterView))) : Type 0 where
  pub lengths : EachRow HasAsMany old new
  pub pair : (low place : ℕ) (one other : LineView E WriterView) → low ≤ place → IsAt old low place one → IsAt old (suc place) low other →
      PairAfter m (known_of wanted low (suc place)) (In low place) (came ≡ verdict.Idle) (Passed came low (suc place)) low place one other new
  pub fault : (first second : ℕ) → came ≡ verdict.Fault first second →
      IsAmong In (λ low high. MissStreamAt m.tells (known_of wanted low high) first second low high) new
  pub spent : (host peer entries : ℕ) → came ≡ verdict.Spent host peer entries → IsAmong In (IsFullAt host peer entries) new
