-- What a header says that its frame is, and why one is refused. The rules are this project's own; the flags are those
-- of rds.h.
use Rattle.std.specs.Prelude.{ℕ, ◌^◌, ◌==◌, ◌&&◌, ◌||◌, not, nat_lt, nat_le, if◌then◌else◌, Bool, true, false, Option, Some, None, Result, Ok, Err, bit_and}
use Rattle.rds_wire.specs.declared.header.Header.{Header}
use Rattle.rds_wire.specs.declared.kind.Kind.{Kind}
use Rattle.rds_wire.specs.declared.kind.Kind.TheVariants.{Data, Ack, Map, OddMap}
use Rattle.rds_wire.specs.declared.kind.Malformed.{Malformed}
use Rattle.rds_wire.specs.declared.kind.Malformed.TheVariants as malformed
use Rattle.rds_wire.specs.declared.header.TheConstants.{CONG_BITMAP}
use Rattle.rds_wire.specs.declared.kind.TheConstants.{MAP_LENGTH, MAX_LENGTH}
use Rattle.rds_wire.specs.Bytes.{computed}
use Rattle.rds_wire.specs.Generations.{generation}

-- the flag is among the flags
abbrev pub carries : ℕ → ℕ → Bool
carries flag flags = not (bit_and flags flag == 0)

abbrev pub is_data : Kind → Bool
is_data Data = true
is_data Ack = false
is_data Map = false
is_data OddMap = false

-- the kind of a header
abbrev pub kind_of : Header → Kind
kind_of h =
    if carries CONG_BITMAP h.flags then (if h.len == MAP_LENGTH then Map else OddMap)
    else (if h.sequence == 0 && (h.len == 0 && h.dport == 0) then Ack else Data)

-- the first thing that is wrong with a header, where the reader has pulled no number above `highest` and read no
-- generation above `known`
unfoldable pub cause : Header → ℕ → ℕ → Option Malformed
cause h highest known =
    if not (h.csum == 0) && not (h.csum == computed h) then Some (malformed.Sum h.csum (computed h))
    else (if nat_lt MAX_LENGTH h.len then Some (malformed.Length h.len)
    else (if is_data (kind_of h) && (h.sequence == 0 || nat_le (2 ^ 63) h.sequence) then Some (malformed.Sequence h.sequence)
    else (if nat_lt highest h.ack then Some (malformed.Ack h.ack highest)
    else (if nat_lt (generation h) known then Some (malformed.Generation (generation h) known) else None))))

abbrev pub answered : Kind → Option Malformed → Result Kind Malformed
answered kind None = Ok kind
answered kind (Some cause) = Err cause

-- the kind of a header, or what is wrong with it
abbrev pub checked : Header → ℕ → ℕ → Result Kind Malformed
checked h highest known = answered (kind_of h) (cause h highest known)
