-- The generation number that a header carries. Types and sizes are this project's profile after rds.h, as those of all
-- extensions.
use Rattle.std.specs.Prelude.{ℕ, zero, suc, List, [], ◌∷◌, length, nat_le, ◌==◌, ◌||◌, if◌then◌else◌}
use Rattle.byteorder.specs.Endian.{big_number}
use Rattle.rds_wire.specs.declared.header.Header.{Header}

-- the number in the first 4 bytes, or 0 where there are fewer
abbrev pub whole_number : List ℕ → ℕ
whole_number bytes = if nat_le 4 (length bytes) then big_number 4 bytes else 0

-- the first generation number in a list of extensions, of the one before which so many bytes are still to come; 0 where
-- the list ends without one
abbrev pub first_generation : ℕ → List ℕ → ℕ
first_generation left [] = 0
first_generation (suc left) (byte ∷ bytes) = first_generation left bytes
first_generation zero (kind ∷ bytes) =
    if kind == 6 then whole_number bytes
    else (if kind == 1 || kind == 2 then first_generation 4 bytes
    else (if kind == 3 then first_generation 8 bytes
    else (if kind == 5 then first_generation 2 bytes else 0)))

-- the first generation number that a header carries, or 0
unfoldable pub generation : Header → ℕ
generation h = first_generation 0 h.ext
