-- Which entries may stand in a journal, each at its place. Source: this project's own.
use Rattle.std.specs.Prelude.{◌≡◌, ◌≢◌, ◌⊎◌, ℕ, suc, ◌<◌, ◌≤◌, ◌^◌, ◌||◌, true, false, Option, Some, None, IsSome, MatchOption, List, [], ◌∷◌, length}
use Rattle.rds_wire.specs.declared.frame.Frame.{Frame}
use Rattle.rds_wire.specs.declared.header.Header.{Header}
use Rattle.rds_wire.specs.declared.kind.Malformed.{Malformed}
use Rattle.rds_wire.specs.declared.kind.TheConstants.{MAX_LENGTH}
use Rattle.rds_wire.specs.Bytes.{IsBytes, IsHeader}
use Rattle.rds_wire.specs.Kinds.{cause}
use Rattle.rds_model.specs.declared.entry.Entry.{Entry}
use Rattle.rds_model.specs.declared.entry.Entry.TheVariants.{Accept, Cancel, Open, Pull, Read, Shut, Bad}
use Rattle.rds_model.specs.declared.entry.Outcome.{Outcome}
use Rattle.rds_model.specs.declared.entry.Outcome.TheVariants as outcome
use Rattle.rds_model.specs.declared.entry.TheConstants.{NO_SLOT}
use Rattle.rds_model.specs.Past.{Accepted, open_stream, newest_stream, accepted, datagram, highest_pulled}
use Rattle.rds_model.specs.Streams.{pulled_on}
use Rattle.rds_model.specs.Alive.{is_alive}
use Rattle.rds_model.specs.Owed.{last_map, is_asked, must_ask, map_frame, ack_frame, data_frame}
use Rattle.rds_model.specs.Reading.{verdict_of, Obeys}

-- A datagram may be accepted from a socket. Numbers stay below 2 ^ 63, since a reader refuses others.
pub record IsLawfulAccept (past : List Entry) (slot sport dport : ℕ) (payload : List ℕ) : Type 0 where
  pub socket : slot ≢ NO_SLOT
  pub sport_fits : sport < 2 ^ 16
  pub dport_fits : dport < 2 ^ 16
  pub payload_fits : length payload ≤ MAX_LENGTH
  pub number_fits : suc (accepted past) < 2 ^ 63

-- A map may be pulled where none was pulled on the stream, or the last one has other bytes.
pub record IsMapPull (s : ℕ) (past : List Entry) (f : Frame) : Type 0 where
  pub new : last_map s past ≢ Some f.payload
  pub bytes : IsBytes f.payload
  pub is : f ≡ map_frame past f.payload

-- A datagram may be pulled behind a map, where it is alive, wasn't pulled on the stream, and each smaller number that is
-- alive was.
pub record IsDataPull (s : ℕ) (past : List Entry) (f : Frame) : Type 0 where
  pub n : ℕ
  pub d : Accepted
  pub behind_a_map : IsSome (last_map s past)
  pub known : datagram past n ≡ Some d
  pub alive : is_alive past n ≡ true
  pub once : pulled_on s past n ≡ false
  pub least : (m : ℕ) → m < n → is_alive past m ≡ true → pulled_on s past m ≡ true
  pub is : f ≡ data_frame s past n d

-- An acknowledgement may be pulled behind a map, where each number that is alive was pulled on the stream, and one is
-- asked for or has to be.
pub record IsAckPull (s : ℕ) (past : List Entry) (f : Frame) : Type 0 where
  pub behind_a_map : IsSome (last_map s past)
  pub all_pulled : (m : ℕ) → is_alive past m ≡ true → pulled_on s past m ≡ true
  pub asked : is_asked s past || must_ask s past ≡ true
  pub is : f ≡ ack_frame past (must_ask s past)

-- a frame may be pulled on stream s: each of its fields fits, and its payload has as many bytes as its header says
pub record IsLawfulPull (s : ℕ) (past : List Entry) (f : Frame) : Type 0 where
  pub on : open_stream past ≡ Some s
  pub header : IsHeader f.header
  pub whole : length f.payload ≡ f.header.len
  pub owed : IsMapPull s past f ⊎ IsDataPull s past f ⊎ IsAckPull s past f

-- a frame may be read on stream s with this outcome
pub record IsLawfulRead (s : ℕ) (past : List Entry) (f : Frame) (outcome : Outcome) : Type 0 where
  pub on : open_stream past ≡ Some s
  pub header : IsHeader f.header
  pub whole : length f.payload ≡ f.header.len
  pub sound : cause f.header (highest_pulled past) 0 ≡ None
  pub obeys : Obeys (verdict_of past f.header) outcome

-- a malformed header ends stream s
pub record IsLawfulBad (s : ℕ) (past : List Entry) (h : Header) (found : Malformed) : Type 0 where
  pub on : open_stream past ≡ Some s
  pub header : IsHeader h
  pub malformed : cause h (highest_pulled past) 0 ≡ Some found

-- the entry may stand behind this past, where no pong is owed
abbrev pub IsLawful : List Entry → Entry → Type 0
IsLawful past (Accept slot sport dport payload) = IsLawfulAccept past slot sport dport payload
IsLawful past (Cancel slot target) = slot ≢ NO_SLOT
IsLawful past (Open s) = (open_stream past ≡ None) × (newest_stream past < s)
IsLawful past (Pull s f) = IsLawfulPull s past f
IsLawful past (Read s f outcome) = IsLawfulRead s past f outcome
IsLawful past (Shut s) = open_stream past ≡ Some s
IsLawful past (Bad s h found) = IsLawfulBad s past h found

abbrev pub pong_for : Outcome → ℕ → Option ℕ
pong_for outcome.Ping sport = Some sport
pong_for _ sport = None

-- the port to which a pong is owed, where the newest entry is the reading of a ping
abbrev pub pong_to : List Entry → Option ℕ
pong_to [] = None
pong_to (Read stream frame outcome ∷ past) = pong_for outcome frame.header.sport
pong_to (_ ∷ past) = None

-- the entry is the pong: an empty datagram from port 0, which no socket owns
pub record IsPong (past : List Entry) (port : ℕ) (e : Entry) : Type 0 where
  pub is : e ≡ Accept NO_SLOT 0 port []
  pub number_fits : suc (accepted past) < 2 ^ 63

-- the entry may stand behind this past: directly behind a ping only its pong may
abbrev pub Continues : List Entry → Entry → Type 0
Continues past e = MatchOption (pong_to past) (IsLawful past e) (λ port. IsPong past port e)

-- each entry may stand at its place
abbrev pub IsLegal : List Entry → Type 0
IsLegal [] = Unit {0}
IsLegal (e ∷ past) = Continues past e × IsLegal past

-- a legal journal in which no pong is owed, as it is between any two calls
pub record IsWhole (past : List Entry) : Type 0 where
  pub legal : IsLegal past
  pub settled : pong_to past ≡ None
