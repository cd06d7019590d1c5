-- A text in pieces. The words are this project's own.
use Rattle.std.specs.Prelude.{◌≡◌, ℕ, List, [], ◌∷◌, ◌++◌, map, ⊤}
use Rattle.std.specs.Borrow.{Bor}

-- the text ends behind the LF of a line
abbrev pub EndsLine : List ℕ → Type 0
EndsLine text = (front : List ℕ) × (text ≡ front ++ 10 ∷ [])

-- each piece but the last ends behind a LF
abbrev pub AreCut : List (List ℕ) → Type 0
AreCut [] = ⊤
AreCut (piece ∷ []) = ⊤
AreCut (piece ∷ next ∷ pieces) = EndsLine piece × AreCut (next ∷ pieces)

-- the texts that references point to
abbrev pub contents : List (Bor (List ℕ)) → List (List ℕ)
contents pieces = map (λ p. p.now) pieces
