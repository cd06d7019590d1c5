-- A writer and a reader of words, as contracts see them. This project's own.
use Rattle.std.specs.Prelude.{◌≡◌, ℕ, ◌/◌, ◌%◌, ◌==◌, ◌≤◌, List, [], ◌∷◌, ◌++◌, Contains, Some, slice_get}
use Rattle.std.specs.Int.{bit_at}
use Rattle.atomic_table.specs.Seated.{TableId}
use Rattle.rds_fmap.specs.declared.seen.Seen.{Seen}
use Rattle.rds_fmap.specs.declared.words.view.View.{View}
use Rattle.rds_fmap.specs.declared.words.view.Look.{Look}
use Rattle.rds_fmap.specs.Views.{version_in}

-- a writer: its pair and the maps that it has published
pub record WriterView : Type 0 where
  pub pair : TableId
  pub published : List (List ℕ)

-- a reader: its pair and what its loads have found
pub record ReaderView : Type 0 where
  pub pair : TableId
  pub found : List Look

abbrev pub writer_view : TableId → View → WriterView
writer_view id v = record { pair = id; published = v.published }

abbrev pub reader_view : TableId → View → ReaderView
reader_view id v = record { pair = id; found = v.looks }

-- the word that has a port
abbrev pub half_of_port : ℕ → ℕ
half_of_port port = port / 32

-- what a number found in the port's word says of the port
abbrev pub seen_in : ℕ → ℕ → Seen
seen_in number port = record { version = version_in number; set = bit_at number (port % 32) == 1 }

-- some look has found this of the port
abbrev pub HasSeen : ReaderView → ℕ → Seen → Type 0
HasSeen r port seen = (number : ℕ) × Contains r.found (record { word = half_of_port port; number = number }) × (seen ≡ seen_in number port)

-- one load of the port's word, and what it says of the port
abbrev pub IsLook : ReaderView → ReaderView → ℕ → Seen → Type 0
IsLook old new port seen = (number : ℕ) × (new ≡ record old { found = old.found ++ record { word = half_of_port port; number = number } ∷ [] }) × (seen ≡ seen_in number port)

-- of two of these looks at one word, which stand in their order, the later one found no older version
abbrev pub NeverFalls : List Look → Type 0
NeverFalls looks = (i j : ℕ) (a b : Look) → i ≤ j → slice_get looks i ≡ Some a → slice_get looks j ≡ Some b → b.word ≡ a.word →
    version_in a.number ≤ version_in b.number
