-- Laws, each proved: proofs in other crates use them. Nothing here has to be believed.
-- What the frames of the three lawful pulls are: their kinds, flags, numbers and acknowledgements.
use Rattle.std.proofs.Common.{◌≡◌, inl, inr, ℕ, ◌+◌, ◌<◌, Bool, true, false, is_some, List, length, refl, sym, ◌∙◌, ap, arith}
use Rattle.std.proofs.lemmas.Bool.{ne_eqb, false≢true}
use Rattle.rds_wire.specs.declared.frame.Frame.{Frame}
use Rattle.rds_wire.specs.declared.header.TheConstants.{CONG_BITMAP, ACK_REQUIRED, RETRANSMITTED}
use Rattle.rds_wire.specs.declared.kind.Kind.{Kind}
use Rattle.rds_wire.specs.declared.kind.Kind.TheVariants.{Data, Ack, Map}
use Rattle.rds_wire.specs.declared.kind.TheConstants.{MAP_LENGTH}
use Rattle.rds_wire.specs.Kinds.{carries, kind_of, is_data}
use Rattle.rds_model.specs.declared.entry.Entry.{Entry}
use Rattle.rds_model.specs.Past.{Accepted, number, is_datagram, last_passed}
use Rattle.rds_model.specs.Streams.{was_pulled}
use Rattle.rds_model.specs.Owed.{asks, header_of, map_frame, ack_frame, data_frame, data_flags, asks_with, flag_if, must_ask}
use Rattle.rds_model.specs.Legal.{IsLawfulPull, IsMapPull, IsDataPull, IsAckPull}
use Rattle.rds_model.specs.NumberLaws.{number_of_known}

map_flag : (before asking : Bool) → carries CONG_BITMAP (flag_if before RETRANSMITTED + flag_if asking ACK_REQUIRED) ≡ false
map_flag = elim [ true ↦ elim [ true ↦ refl | false ↦ refl ] | false ↦ elim [ true ↦ refl | false ↦ refl ] ]

retransmitted_flag : (before asking : Bool) → carries RETRANSMITTED (flag_if before RETRANSMITTED + flag_if asking ACK_REQUIRED) ≡ before
retransmitted_flag = elim [ true ↦ elim [ true ↦ refl | false ↦ refl ] | false ↦ elim [ true ↦ refl | false ↦ refl ] ]

asking_flag : (before asking : Bool) → carries ACK_REQUIRED (flag_if before RETRANSMITTED + flag_if asking ACK_REQUIRED) ≡ asking
asking_flag = elim [ true ↦ elim [ true ↦ refl | false ↦ refl ] | false ↦ elim [ true ↦ refl | false ↦ refl ] ]

-- a congestion map is of that kind, and doesn't ask
pub kind_of_map_frame : (past : List Entry) (map : List ℕ) → kind_of (map_frame past map).header ≡ Map
unfolding header_of
kind_of_map_frame past map = refl

pub map_asks_not : (past : List Entry) (map : List ℕ) → asks (map_frame past map) ≡ false
unfolding header_of
map_asks_not past map = refl

-- so is an acknowledgement, which asks where it has to
pub kind_of_ack_frame : (past : List Entry) (asking : Bool) → kind_of (ack_frame past asking).header ≡ Ack
unfolding header_of
kind_of_ack_frame past true = refl
kind_of_ack_frame past false = refl

pub ack_asks : (past : List Entry) (asking : Bool) → asks (ack_frame past asking) ≡ asking
unfolding header_of
ack_asks past true = refl
ack_asks past false = refl

-- a datagram with a number above 0 is of that kind
pub kind_of_data_frame : (s : ℕ) (past : List Entry) (n : ℕ) (d : Accepted) → 0 < n → kind_of (data_frame s past n d).header ≡ Data
unfolding header_of
kind_of_data_frame s past n d above =
    simp (map_flag, ne_eqb n 0 (λ e. omega arith))

pub is_retransmitted : (s : ℕ) (past : List Entry) (n : ℕ) (d : Accepted) →
    carries RETRANSMITTED (data_frame s past n d).header.flags ≡ was_pulled past n
unfolding header_of
is_retransmitted s past n d = retransmitted_flag (was_pulled past n) (asks_with s past n d)

pub data_asks : (s : ℕ) (past : List Entry) (n : ℕ) (d : Accepted) → asks (data_frame s past n d) ≡ asks_with s past n d
unfolding header_of
data_asks s past n d = asking_flag (was_pulled past n) (asks_with s past n d)

-- the fields of a header
pub ack_of_header : (past : List Entry) (number len sport dport flags : ℕ) → (header_of past number len sport dport flags).ack ≡ last_passed past
unfolding header_of
ack_of_header past number len sport dport flags = refl

pub len_of_header : (past : List Entry) (number len sport dport flags : ℕ) → (header_of past number len sport dport flags).len ≡ len
unfolding header_of
len_of_header past number len sport dport flags = refl

pub number_of_data : (s : ℕ) (past : List Entry) (n : ℕ) (d : Accepted) → number (data_frame s past n d) ≡ n
unfolding header_of
number_of_data s past n d = refl

pub ports_of_data : (s : ℕ) (past : List Entry) (n : ℕ) (d : Accepted) →
    ((data_frame s past n d).header.sport ≡ d.sport) × ((data_frame s past n d).header.dport ≡ d.dport)
unfolding header_of
ports_of_data s past n d = (refl, refl)

-- every pulled frame acknowledges what was passed
pub pull_acknowledges : (s : ℕ) (past : List Entry) (f : Frame) → IsLawfulPull s past f → f.header.ack ≡ last_passed past
pull_acknowledges s past f lawful =
    elim lawful.owed [
      | inl map ↦ ap (λ (g : Frame). g.header.ack) map.is ∙ ack_of_header past 0 MAP_LENGTH 0 0 CONG_BITMAP
      | inr (inl data_pull) ↦
          let d = data_pull.d in
          ap (λ (g : Frame). g.header.ack) data_pull.is
          ∙ ack_of_header past data_pull.n (length d.payload) d.sport d.dport (data_flags s past data_pull.n d)
      | inr (inr ack) ↦
          ap (λ (g : Frame). g.header.ack) ack.is ∙ ack_of_header past 0 0 0 0 (flag_if (must_ask s past) ACK_REQUIRED)
    ]

kind_along : (f g : Frame) (kind : Kind) → f ≡ g → kind_of g.header ≡ kind → kind_of f.header ≡ kind
kind_along f g kind same is = ap (λ (x : Frame). kind_of x.header) same ∙ is

pub kind_of_map_pull : (s : ℕ) (past : List Entry) (f : Frame) → IsMapPull s past f → kind_of f.header ≡ Map
kind_of_map_pull s past f pull = kind_along f (map_frame past f.payload) Map pull.is (kind_of_map_frame past f.payload)

pub kind_of_ack_pull : (s : ℕ) (past : List Entry) (f : Frame) → IsAckPull s past f → kind_of f.header ≡ Ack
kind_of_ack_pull s past f pull =
    kind_along f (ack_frame past (must_ask s past)) Ack pull.is (kind_of_ack_frame past (must_ask s past))

pub kind_of_data_pull : (s : ℕ) (past : List Entry) (f : Frame) → IsDataPull s past f → kind_of f.header ≡ Data
kind_of_data_pull s past f pull =
    kind_along f (data_frame s past pull.n pull.d) Data pull.is
    (kind_of_data_frame s past pull.n pull.d (number_of_known past pull.n (ap is_some pull.known)).0)

-- a pulled frame of a datagram's kind is one
pub data_pull_of : (s : ℕ) (past : List Entry) (f : Frame) → IsLawfulPull s past f → is_datagram f ≡ true → IsDataPull s past f
data_pull_of s past f lawful is =
    elim lawful.owed [
      | inl map ↦ absurd (false≢true (sym (ap is_data (kind_of_map_pull s past f map)) ∙ is))
      | inr (inl pull) ↦ pull
      | inr (inr ack) ↦ absurd (false≢true (sym (ap is_data (kind_of_ack_pull s past f ack)) ∙ is))
    ]

-- it has the number of the datagram, and says whether it was pulled before
pub number_of_pull : (s : ℕ) (past : List Entry) (f : Frame) (pull : IsDataPull s past f) → number f ≡ pull.n
number_of_pull s past f pull = ap number pull.is ∙ number_of_data s past pull.n pull.d

pub retransmitted_pull : (s : ℕ) (past : List Entry) (f : Frame) (pull : IsDataPull s past f) →
    carries RETRANSMITTED f.header.flags ≡ was_pulled past pull.n
retransmitted_pull s past f pull =
    ap (λ (g : Frame). carries RETRANSMITTED g.header.flags) pull.is ∙ is_retransmitted s past pull.n pull.d
