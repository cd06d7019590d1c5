-- First in, first out, and each once: from the sender's journal a to the receiver's journal b. Source: this project's own.
use Rattle.std.specs.Prelude.{◌≡◌, ◌⊎◌, ℕ, ◌<◌, ◌≤◌, true, false, Some, List, ◌∷◌}
use Rattle.rds_wire.specs.declared.frame.Frame.{Frame}
use Rattle.rds_wire.specs.declared.header.Header.{Header}
use Rattle.rds_wire.specs.declared.kind.Malformed.{Malformed}
use Rattle.rds_model.specs.declared.entry.Entry.{Entry}
use Rattle.rds_model.specs.declared.entry.Entry.TheVariants.{Read, Bad}
use Rattle.rds_model.specs.declared.entry.Outcome.{Outcome}
use Rattle.rds_model.specs.declared.entry.Outcome.TheVariants as outcome
use Rattle.rds_model.specs.Past.{Accepted, Moment, datagram, number, passes, last_passed}
use Rattle.rds_model.specs.Streams.{was_read, was_passed}
use Rattle.rds_model.specs.Alive.{was_taken_back, was_taken_back_unbegun}

-- the frame has the ports and the payload of an accepted datagram
pub record Carries (f : Frame) (d : Accepted) : Type 0 where
  pub sport : f.header.sport ≡ d.sport
  pub dport : f.header.dport ≡ d.dport
  pub payload : f.payload ≡ d.payload

pub record IsFifo (a b : List Entry) : Type 0 where
  -- the numbers of the passed reads rise strictly
  pub rise : (s : ℕ) (f : Frame) (o : Outcome) (past : List Entry) →
      Moment (Read s f o ∷ past) b → passes o ≡ true → last_passed past < number f
  -- a passed datagram is the one that was accepted under its number
  pub accepted : (s : ℕ) (f : Frame) (o : Outcome) (past : List Entry) →
      Moment (Read s f o ∷ past) b → passes o ≡ true → (d : Accepted) × (datagram a (number f) ≡ Some d) × Carries f d
  -- each number up to the last passed one was passed, or was alive when a cancellation covered it
  pub none_lost : (n : ℕ) → 0 < n → n ≤ last_passed b → (was_passed b n ≡ true) ⊎ (was_taken_back a n ≡ true)
  -- a number that was taken back before its first pull isn't read
  pub unbegun : (n : ℕ) → was_taken_back_unbegun a n ≡ true → was_read b n ≡ false
  -- an old copy has the number of a datagram that was passed before
  pub repeated : (s : ℕ) (f : Frame) (past : List Entry) →
      Moment (Read s f outcome.Old ∷ past) b → was_passed past (number f) ≡ true

-- no header was refused
abbrev pub HasNoBad : List Entry → Type 0
HasNoBad j = (s : ℕ) (h : Header) (found : Malformed) (past : List Entry) → ¬ Moment (Bad s h found ∷ past) j
