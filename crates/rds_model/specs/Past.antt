-- The first file to read; Lib.antt says which come next. A journal is seen as its past: the entries, the newest first, so
-- that "before" an entry is the rest of the list. Sources: rds.h for the numbers of datagrams (`h_sequence`); the rest is
-- this project's own.
use Rattle.std.specs.Prelude.{ℕ, suc, ◌==◌, ◌&&◌, max, if◌then◌else◌, Bool, true, false, Option, Some, None, List, [], ◌∷◌, length}
use Rattle.rds_wire.specs.declared.frame.Frame.{Frame}
use Rattle.rds_wire.specs.Kinds.{is_data, kind_of}
use Rattle.rds_model.specs.declared.entry.Entry.{Entry}
use Rattle.rds_model.specs.declared.entry.Entry.TheVariants.{Accept, Cancel, Open, Pull, Read, Shut, Bad}
use Rattle.rds_model.specs.declared.entry.Outcome.{Outcome}
use Rattle.rds_model.specs.declared.entry.Outcome.TheVariants as outcome

-- p is what had happened at some moment of j
pub data Moment (p : List Entry) : List Entry → Type 0 where
  now : Moment p p
  before : {e : Entry} {j : List Entry} → Moment p j → Moment p (e ∷ j)

-- the stream that is open, if one is: the last that was opened, where it wasn't shut or ended since
abbrev pub open_stream : List Entry → Option ℕ
open_stream [] = None
open_stream (Accept slot sport dport payload ∷ past) = open_stream past
open_stream (Cancel slot target ∷ past) = open_stream past
open_stream (Open stream ∷ past) = Some stream
open_stream (Pull stream frame ∷ past) = open_stream past
open_stream (Read stream frame outcome ∷ past) = open_stream past
open_stream (Shut stream ∷ past) = None
open_stream (Bad stream header cause ∷ past) = None

-- the stream that was opened last, or 0
abbrev pub newest_stream : List Entry → ℕ
newest_stream [] = 0
newest_stream (Open stream ∷ past) = stream
newest_stream (_ ∷ past) = newest_stream past

-- how many datagrams were accepted
abbrev pub accepted : List Entry → ℕ
accepted [] = 0
accepted (Accept slot sport dport payload ∷ past) = suc (accepted past)
accepted (_ ∷ past) = accepted past

-- a datagram as it was accepted, and the place of its `Accept` in the journal, counted from 0
pub record Accepted : Type 0 where
  pub place : ℕ
  pub slot : ℕ
  pub sport : ℕ
  pub dport : ℕ
  pub payload : List ℕ

-- the datagram of number n, where one was accepted: the n-th `Accept`
abbrev pub datagram : List Entry → ℕ → Option Accepted
datagram [] n = None
datagram (Accept slot sport dport payload ∷ past) n =
    if n == suc (accepted past)
    then Some (record { place = length past; slot = slot; sport = sport; dport = dport; payload = payload })
    else datagram past n
datagram (_ ∷ past) n = datagram past n

-- the number of a frame
abbrev pub number : Frame → ℕ
number f = f.header.sequence

-- the frame is a datagram
abbrev pub is_datagram : Frame → Bool
is_datagram f = is_data (kind_of f.header)

-- the frame is the datagram of number n
abbrev pub carries_number : ℕ → Frame → Bool
carries_number n f = is_datagram f && (number f == n)

-- the highest number of a datagram that was ever pulled, or 0
abbrev pub highest_pulled : List Entry → ℕ
highest_pulled [] = 0
highest_pulled (Pull stream frame ∷ past) = if is_datagram frame then max (number frame) (highest_pulled past) else highest_pulled past
highest_pulled (_ ∷ past) = highest_pulled past

-- the outcomes of a passed read: those of a datagram but `Old`
abbrev pub passes : Outcome → Bool
passes outcome.Old = false
passes outcome.NoSocket = true
passes (outcome.Slot slot) = true
passes outcome.Ping = true
passes outcome.Void = true
passes outcome.AckOnly = false
passes outcome.Map = false
passes outcome.OddMap = false

-- the number of the last passed read, or 0
abbrev pub last_passed : List Entry → ℕ
last_passed [] = 0
last_passed (Read stream frame outcome ∷ past) = if passes outcome then number frame else last_passed past
last_passed (_ ∷ past) = last_passed past

-- the highest acknowledgement of a frame that was read, or 0
abbrev pub highest_ack : List Entry → ℕ
highest_ack [] = 0
highest_ack (Read stream frame outcome ∷ past) = max frame.header.ack (highest_ack past)
highest_ack (_ ∷ past) = highest_ack past
