-- The first place of a kind.
use Rattle.std.proofs.Common.{◌≡◌, ℕ, ◌+◌, ◌<◌, ◌≤◌, Bool, false, List, length, Some, slice_get, sym, ap, ◌∙◌, ⊎_elim, arith}
use Rattle.std.proofs.lemmas.Bool.{cases_eq}
use Rattle.std.proofs.lemmas.Option.{same_Some, slice_get_within}

-- none below this place is of the kind
abbrev pub NoneBelow : {A : Type 0} → (A → Bool) → List A → ℕ → Type 0
NoneBelow {A} is list end = (place : ℕ) (x : A) → slice_get list place ≡ Some x → place < end → is x ≡ false

pub none_yet : {A : Type 0} (is : A → Bool) (list : List A) → NoneBelow is list 0
none_yet is list place x at below = absurd (omega arith)

pub none_more : {A : Type 0} (is : A → Bool) (list : List A) (end : ℕ) (y : A) → NoneBelow is list end → slice_get list end ≡ Some y → is y ≡ false → NoneBelow is list (end + 1)
none_more is list end y none here not place x at below = ⊎_elim
    (λ (e : place ≡ end). ap is (same_Some x y (sym at ∙ (ap (λ i. slice_get list i) e ∙ here))) ∙ not)
    (λ (e : place ≡ end → ⊥). none place x at (omega arith))
    (cases_eq place end)

pub none_at_all : {A : Type 0} (is : A → Bool) (list : List A) (end : ℕ) → NoneBelow is list end → length list ≤ end → (place : ℕ) (x : A) → slice_get list place ≡ Some x → is x ≡ false
none_at_all is list end none all place x at = none place x at (let l = slice_get_within list place x at in omega arith)
