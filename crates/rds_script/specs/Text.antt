-- The lines of a text and the words of a line. The form is this project's own; `lines` is that of Rust's `str`.
use Rattle.std.specs.Prelude.{ℕ, ◌==◌, ◌||◌, ◌&&◌, nat_lt, nat_le, Bool, List, length, filter}
use Rattle.std.specs.List.{slice_split}

-- the LF that ends a line
abbrev pub is_end : ℕ → Bool
is_end b = b == 10

-- a space or a tab
abbrev pub is_blank : ℕ → Bool
is_blank b = b == 32 || b == 9

-- a tab or a printable character of ASCII
abbrev pub is_text : ℕ → Bool
is_text b = b == 9 || (nat_le 32 b && nat_le b 126)

-- the words of a line: what stands between blanks
unfoldable pub words : List ℕ → List (List ℕ)
words line = filter (λ w. nat_lt 0 (length w)) (slice_split is_blank line)
