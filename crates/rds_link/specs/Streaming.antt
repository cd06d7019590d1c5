-- What sources and sinks tell of the bytes that they hold, and how they count faults. Source: this project's own.
use Rattle.std.specs.Prelude.{◌≡◌, ◌⊎◌, ℕ, ◌<◌, ◌≤◌, ◌+◌, ◌^◌, ◌-◌, Option, Some, None, MatchOption, List, [], ◌++◌, take}
use Rattle.rds_link.specs.Failing.{CallsView}

-- A count of faults rose. It stands still at the last value of a u64, and counts as risen there.
abbrev pub HasRisen : ℕ → ℕ → Type 0
HasRisen old new = (old < new) ⊎ (new ≡ 2 ^ 64 - 1)

-- it rose by at least so many
abbrev pub HasRisenBy : ℕ → ℕ → ℕ → Type 0
HasRisenBy least old new = (old + least ≤ new) ⊎ (new ≡ 2 ^ 64 - 1)

-- where a source tells what it has left, it handed out these bytes from the front
abbrev pub SourceGave : Option (List ℕ) → Option (List ℕ) → List ℕ → Type 0
SourceGave None new bytes = Unit {0}
SourceGave (Some old) new bytes = MatchOption new ⊥ (λ rest. old ≡ bytes ++ rest)

-- where a source or a sink told its bytes, it tells the same
abbrev pub TellsSame : Option (List ℕ) → Option (List ℕ) → Type 0
TellsSame old new = MatchOption old (Unit {0}) (λ bytes. new ≡ Some bytes)

-- where a source tells what it has left, nothing is
abbrev pub IsAtEnd : Option (List ℕ) → Type 0
IsAtEnd left = MatchOption left (Unit {0}) (λ rest. rest ≡ [])

-- where a source tells what it has left, these are the first bytes of it, at most so many
abbrev pub SourceGaveFront : Option (List ℕ) → ℕ → List ℕ → Type 0
SourceGaveFront left most bytes = MatchOption left (Unit {0}) (λ all. bytes ≡ take most all)

-- where a source tells what it has left, these bytes are all of it, and nothing is left
abbrev pub SourceGaveAll : Option (List ℕ) → Option (List ℕ) → List ℕ → Type 0
SourceGaveAll old new bytes = MatchOption old (Unit {0}) (λ all. (all ≡ bytes) × (new ≡ Some []))

-- where a sink tells what it holds, it took these bytes at the end
abbrev pub SinkGained : Option (List ℕ) → Option (List ℕ) → List ℕ → Type 0
SinkGained None new bytes = Unit {0}
SinkGained (Some old) new bytes = new ≡ Some (old ++ bytes)

-- where a sink tells what it holds, it took a beginning of these bytes
abbrev pub SinkGainedFront : Option (List ℕ) → Option (List ℕ) → List ℕ → Type 0
SinkGainedFront old new bytes = (n : ℕ) × SinkGained old new (take n bytes)

-- a reader or a writer, and how often it has failed
pub record WithFaults (T : Type 0) : Type 0 where
  pub inner : T
  pub faults : ℕ

-- a source in memory: what is left, how often it has failed, and which of its reads fail
pub record Supply : Type 0 where
  pub left : List ℕ
  pub faults : ℕ
  pub calls : CallsView

-- a sink in memory: what it holds, how often it has failed, and which of its writes fail
pub record Pile : Type 0 where
  pub held : List ℕ
  pub faults : ℕ
  pub calls : CallsView
