-- The words that the printed texts are made of, as bytes of ASCII. Source: this project's own.
use Rattle.std.specs.Prelude.{ℕ, ◌+◌, ◌/◌, ◌%◌, ◌==◌, if◌then◌else◌, Bool, true, false, List, [], ◌∷◌, ◌++◌, codes}
use Rattle.std.specs.List.{flat_map}
use Rattle.std.specs.Fmt.{decimal, digit_glyph}

-- the letter of a host, counted from 0: A, B, C and so on
abbrev pub host_name : ℕ → List ℕ
host_name host = (65 + host) ∷ []

-- a dash stands for nothing
abbrev pub dash : List ℕ
dash = codes "-"

-- two digits, in lower case
abbrev pub hex_byte : ℕ → List ℕ
hex_byte b = digit_glyph false (b / 16) ∷ digit_glyph false (b % 16) ∷ []

-- bytes in hexadecimal, or a dash where there are none
abbrev pub hex : List ℕ → List ℕ
hex [] = dash
hex (b ∷ bytes) = flat_map hex_byte (b ∷ bytes)

-- a number behind a comma
abbrev pub after_comma : ℕ → List ℕ
after_comma n = codes "," ++ decimal n

-- numbers with a comma before each
abbrev pub after_commas : List ℕ → List ℕ
after_commas ns = flat_map after_comma ns

-- numbers with commas between them, and one before the first where others stand before it
abbrev pub listed : Bool → List ℕ → List ℕ
listed true ns = after_commas ns
listed false [] = []
listed false (n ∷ ns) = decimal n ++ after_commas ns

-- numbers with commas between them, or a dash where there are none
abbrev pub numbers : List ℕ → List ℕ
numbers [] = dash
numbers (n ∷ ns) = decimal n ++ after_commas ns

-- a slot, or a dash for the one that no socket has
abbrev pub slot_name : ℕ → List ℕ
slot_name slot = if slot == 65535 then dash else decimal slot
