-- What the two threads of an end move, where a reader tells what it has left and a writer what it holds. This project's own.
use Rattle.std.specs.Prelude.{◌≡◌, ℕ, List, ◌++◌, Option}
use Rattle.std.specs.Io.KnownBytes.{Appends, Consumes}

-- the list grew by a front part of the piece
abbrev pub GrowsByFront : List ℕ → List ℕ → List ℕ → Type 0
GrowsByFront before after piece = (front rest : List ℕ) × (piece ≡ front ++ rest) × (after ≡ before ++ front)

-- known bytes grew by a front part of the piece
abbrev pub AppendsFront : Option (List ℕ) → Option (List ℕ) → List ℕ → Type 0
AppendsFront held holds piece = (front rest : List ℕ) × (piece ≡ front ++ rest) × Appends held holds front

-- all that a reader handed out was put behind what was sent before
abbrev pub PutsAll : Option (List ℕ) → Option (List ℕ) → List ℕ → List ℕ → Type 0
PutsAll had has before after = (handed : List ℕ) × Consumes had has handed × (after ≡ before ++ handed)

-- a front part of what a reader handed out was put behind what was sent before
abbrev pub PutsFront : Option (List ℕ) → Option (List ℕ) → List ℕ → List ℕ → Type 0
PutsFront had has before after = (handed : List ℕ) × Consumes had has handed × GrowsByFront before after handed

-- all that was taken behind what was received before was written
abbrev pub WritesAll : Option (List ℕ) → Option (List ℕ) → List ℕ → List ℕ → Type 0
WritesAll held holds before after = (taken : List ℕ) × (after ≡ before ++ taken) × Appends held holds taken

-- a front part of what was taken behind what was received before was written
abbrev pub WritesFront : Option (List ℕ) → Option (List ℕ) → List ℕ → List ℕ → Type 0
WritesFront held holds before after = (taken : List ℕ) × (after ≡ before ++ taken) × AppendsFront held holds taken
