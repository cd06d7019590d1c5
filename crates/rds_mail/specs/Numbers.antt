-- The numbers of putters, and what a list has of each. This project's own.
use Rattle.std.specs.Prelude.{ℕ, ◌==◌, Bool, true, false, if◌then◌else◌, List, [], ◌∷◌}

-- a putter's number is a path: that of the first is empty, and that of the k-th putter split off p is k before p's
abbrev pub Number : Type 0
Number = List ℕ

-- an item beside the number of its putter
abbrev pub Numbered : Type 0 → Type 0
Numbered T = Number × T

-- whether two numbers are one
abbrev pub same_number : Number → Number → Bool
same_number [] [] = true
same_number [] (k ∷ q) = false
same_number (j ∷ p) [] = false
same_number (j ∷ p) (k ∷ q) = if j == k then same_number p q else false

-- the items of the putter with this number, in order
abbrev pub items_of : {T : Type 0} → Number → List (Numbered T) → List T
items_of p [] = []
items_of p (e ∷ list) = if same_number p e.0 then e.1 ∷ items_of p list else items_of p list

-- the items without their numbers
abbrev pub bare_items : {T : Type 0} → List (Numbered T) → List T
bare_items [] = []
bare_items (e ∷ list) = e.1 ∷ bare_items list
