-- How the streams of a line stand to its journal. Source: this project's own.
use Rattle.std.specs.Prelude.{◌≡◌, ◌≢◌, ◌⊎◌, ℕ, zero, suc, true, false, Some, List, [], ◌∷◌, ◌++◌, length, slice_get, Contains}
use Rattle.rds_link.specs.Ends.{Means}
use Rattle.rds_model.specs.declared.entry.Entry.{Entry}
use Rattle.rds_model.specs.declared.entry.Entry.TheVariants.{Shut}
use Rattle.rds_model.specs.Honest.{Begins}
use Rattle.rds_model.specs.Past.{open_stream}
use Rattle.rds_model.specs.Streams.{read_bytes, refused_bytes, written_bytes}
use Rattle.rds_model.specs.Sums.{opens}
use Rattle.rds_line_channel.specs.Channel.{ChannelView, arrived_bytes}
use Rattle.rds_line_channel.specs.Streams.{StreamsView, HasSaidOver, IsEndedAt, newest_place, open_number, opened_numbers}

-- the numbers of the streams that were shut, in the order in which they were
abbrev pub shut_streams : List Entry → List ℕ
shut_streams [] = []
shut_streams (Shut stream ∷ past) = shut_streams past ++ stream ∷ []
shut_streams (_ ∷ past) = shut_streams past

-- how many streams were shut
abbrev pub shuts : List Entry → ℕ
shuts past = length (shut_streams past)

-- the numbers of the streams that cuts found open: what the cuts are noted with, where that isn't 0
abbrev pub cut_streams : List ℕ → List ℕ
cut_streams [] = []
cut_streams (zero ∷ cuts) = cut_streams cuts
cut_streams (suc number ∷ cuts) = suc number ∷ cut_streams cuts

-- how many of the cuts found a stream open
abbrev pub cuts_of_streams : List ℕ → ℕ
cuts_of_streams cuts = length (cut_streams cuts)

-- The numbers of the first list are some of those of the second, in the same order: the second has each of them at a place of its
-- own, and others may stand before, between and behind.
pub data AreSomeOf : List ℕ → List ℕ → Type 0 where
  -- both are empty
  nothing : AreSomeOf [] []
  -- this one also
  also : {some all : List ℕ} (number : ℕ) → AreSomeOf some all → AreSomeOf (number ∷ some) (number ∷ all)
  -- this one not
  without : {some all : List ℕ} (number : ℕ) → AreSomeOf some all → AreSomeOf some (number ∷ all)

module _ {E : Type 0} where
  -- this holds of the number and the end of the stream at this place
  pub record StreamAt (Holds : ℕ → E → Type 0) (place : ℕ) (list : List (ℕ × E)) : Type 0 where
    pub at : (stream : ℕ × E) → slice_get list place ≡ Some stream → Holds stream.0 stream.1

  module _ (m : Means E) (past : List Entry) where
    -- Of the open stream: what its end sent, and then what is still to be written, is what was written; and what it got is what
    -- was read, and then what has arrived since.
    pub record IsOn (arrived out : List ℕ) (number : ℕ) (e : E) : Type 0 where
      pub sends : m.sent e ++ out ≡ written_bytes number past
      pub gets : m.got e ≡ read_bytes number past ++ arrived

    -- Of a stream that was opened and isn't open any more: its end sent a beginning of what was written, and what was read is a
    -- beginning of what it got.
    pub record IsOff (number : ℕ) (e : E) : Type 0 where
      pub sends : Begins (m.sent e) (written_bytes number past)
      pub gets : Begins (read_bytes number past) (m.got e)

    -- such a stream was cut, or its end had said that it is over, or a header that came on it was refused
    abbrev pub HasCause : List ℕ → ℕ → E → Type 0
    HasCause cuts number e = Contains cuts number ⊎ (HasSaidOver m e ⊎ (refused_bytes number past ≢ []))

    -- The stream that is open in the journal is the open one, and the journal opened those that were opened, in that order. The
    -- bytes that the ends tell of are those of the journal. No stream was ended without a cause.
    pub record IsCarriedBy (arrived out : List ℕ) (s : StreamsView E) (cuts : List ℕ) : Type 0 where
      pub current : open_number s ≡ open_stream past
      pub opened : opened_numbers s ≡ opens past
      pub on : m.tells ≡ true → s.is_open ≡ true → StreamAt (IsOn arrived out) (newest_place s) s.list
      pub off : m.tells ≡ true → (place : ℕ) → IsEndedAt s place → StreamAt IsOff place s.list
      pub idle : s.is_open ≡ false → (arrived ≡ []) × (out ≡ [])
      pub causes : (place : ℕ) → IsEndedAt s place → StreamAt (HasCause cuts) place s.list
      -- each cut that found a stream open shut that one: the journal has an entry of its own for each, in the same order
      pub cut : AreSomeOf (cut_streams cuts) (shut_streams past)
      -- after a cut that found no stream open none is open, and no further one is left
      pub late : Contains cuts 0 → (s.is_open ≡ false) × (s.opened ≡ length s.list)

  -- the streams of the channel carry its connection
  abbrev pub StreamsCarry : Means E → ChannelView E → Type 0
  StreamsCarry m c = IsCarriedBy m c.conn.log.past (arrived_bytes c) c.out c.streams c.cuts.numbers
