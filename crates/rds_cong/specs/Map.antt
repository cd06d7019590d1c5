-- A congestion map: one bit for each of the 65,536 ports, on the wire 8,192 bytes. Sources: rds.h for the size of a map
-- (`RDS_CONG_MAP_BYTES`); the order of the bits is this project's own.
use Rattle.std.specs.Prelude.{◌≡◌, ◌<◌, ℕ, ◌+◌, ◌-◌, ◌*◌, ◌/◌, ◌%◌, ◌^◌, ◌==◌, Bool, List, ◌++◌, length, take, drop, replicate, slice_index, slice_set, bit_and, bit_or}
use Rattle.std.specs.Int.{bit_at}
use Rattle.std.specs.List.{All}
use Rattle.byteorder.specs.Endian.{little_bytes, little_number}
use Rattle.rds_wire.specs.Bytes.{IsBytes}
use Rattle.rds_cong.specs.declared.map.TheConstants.{MAP_BYTES, WORDS}

-- Every map is so many bytes.
pub record IsMap (map : List ℕ) : Type 0 where
  pub size : length map ≡ MAP_BYTES
  pub bytes : IsBytes map

-- the map without ports
unfoldable pub no_ports : List ℕ
no_ports = replicate MAP_BYTES 0

-- a port is in a map: it is bit port mod 8 of byte port div 8
abbrev pub has_port : List ℕ → ℕ → Bool
has_port map port = bit_at (slice_index map (port / 8)) (port % 8) == 1

-- the map with a port
abbrev pub with_port : List ℕ → ℕ → List ℕ
with_port map port = slice_set map (port / 8) (bit_or (slice_index map (port / 8)) (2 ^ (port % 8)))

-- the map without a port
abbrev pub without_port : List ℕ → ℕ → List ℕ
without_port map port = slice_set map (port / 8) (bit_and (slice_index map (port / 8)) (255 - 2 ^ (port % 8)))

-- word i of a map: its bits from 8 j on are byte 8 i + j
unfoldable pub word_at : List ℕ → ℕ → ℕ
word_at map i = little_number 8 (drop (8 * i) map)

-- the map with another word i
unfoldable pub with_word : List ℕ → ℕ → ℕ → List ℕ
with_word map i word = take (8 * i) map ++ little_bytes 8 word ++ drop (8 * i + 8) map

-- Every map is kept as so many words of 64 bits.
pub record IsWords (words : List ℕ) : Type 0 where
  pub count : length words ≡ WORDS
  pub fit : All (λ w. w < 2 ^ 64) words
