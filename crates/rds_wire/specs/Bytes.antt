-- What a frame is on the wire.
-- Sources: struct rds_header of rds.h, protocol 3.1, for the fields; RFC 1071 for the checksum.
use Rattle.std.specs.Prelude.{◌≡◌, ℕ, ◌+◌, ◌-◌, ◌*◌, ◌%◌, ◌<◌, ◌^◌, ◌==◌, if◌then◌else◌, List, [], ◌∷◌, ◌++◌, length, All}
use Rattle.byteorder.specs.Endian.{big_bytes}
use Rattle.rds_wire.specs.declared.header.Header.{Header}
use Rattle.rds_wire.specs.declared.frame.Frame.{Frame}

-- the 48 bytes of a header: its fields in the order of rds.h, each number with its highest byte first
unfoldable pub header_bytes : Header → List ℕ
header_bytes h =
    big_bytes 8 h.sequence ++ big_bytes 8 h.ack ++ big_bytes 4 h.len ++ big_bytes 2 h.sport ++ big_bytes 2 h.dport
    ++ big_bytes 1 h.flags ++ big_bytes 1 h.credit ++ h.padding ++ big_bytes 2 h.csum ++ h.ext

-- each number is a byte
abbrev pub IsBytes : List ℕ → Type 0
IsBytes bytes = All (λ b. b < 256) bytes

-- each field fits its place, as it does in every header that code holds
pub record IsHeader (h : Header) : Type 0 where
  pub sequence : h.sequence < 2 ^ 64
  pub ack : h.ack < 2 ^ 64
  pub len : h.len < 2 ^ 32
  pub sport : h.sport < 2 ^ 16
  pub dport : h.dport < 2 ^ 16
  pub flags : h.flags < 2 ^ 8
  pub credit : h.credit < 2 ^ 8
  pub padding : (length h.padding ≡ 4) × IsBytes h.padding
  pub csum : h.csum < 2 ^ 16
  pub ext : (length h.ext ≡ 16) × IsBytes h.ext

-- a frame's bytes: its header, then its payload
abbrev pub frame_bytes : Frame → List ℕ
frame_bytes f = header_bytes f.header ++ f.payload

-- the plain sum of the words of 16 bits
abbrev pub word_sum : List ℕ → ℕ
word_sum [] = 0
word_sum (high ∷ []) = 256 * high
word_sum (high ∷ low ∷ bytes) = 256 * high + low + word_sum bytes

-- what a sum is with end-around carry: 0 for 0, else the number from 1 to 65,535 that has the same remainder
abbrev pub folded : ℕ → ℕ
folded sum = if sum == 0 then 0 else 1 + (sum - 1) % 65535

-- the checksum of a header: the complement of the folded sum of its words, its own checksum counted as 0
unfoldable pub computed : Header → ℕ
computed h = 65535 - folded (word_sum (header_bytes (record h { csum = 0 })))

-- the header with its checksum, and all else as it was
abbrev pub sealed : Header → Header
sealed h = record h { csum = computed h }
