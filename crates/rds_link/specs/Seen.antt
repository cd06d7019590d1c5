-- What a call sees of a source, and does to a sink: the state of each before it and after it. Source: this project's own.
use Rattle.std.specs.Prelude.{ℕ, Option, List}

-- what a source had left, where it tells, and how often it had failed
pub record SourceSeen : Type 0 where
  pub left : Option (List ℕ)
  pub faults_before : ℕ
  pub faults_after : ℕ

-- what a sink holds, where it tells, and how often it has failed
pub record SinkSeen : Type 0 where
  pub held_before : Option (List ℕ)
  pub held_after : Option (List ℕ)
  pub faults_before : ℕ
  pub faults_after : ℕ

-- a source before and after, by what it has left and by its count of faults
abbrev pub source_seen : {S : Type 0} → (left : S → Option (List ℕ)) → (faults : S → ℕ) → (old new : S) → SourceSeen
source_seen left faults old new = record { left = left old; faults_before = faults old; faults_after = faults new }

-- a sink before and after, by what it holds and by its count of faults
abbrev pub sink_seen : {K : Type 0} → (held : K → Option (List ℕ)) → (faults : K → ℕ) → (old new : K) → SinkSeen
sink_seen held faults old new = record { held_before = held old; held_after = held new; faults_before = faults old; faults_after = faults new }
