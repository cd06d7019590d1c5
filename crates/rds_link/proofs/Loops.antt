-- What the loops over a sink and a source keep, and how one turn keeps it.
use Rattle.std.proofs.Common.{◌≡◌, ℕ, ◌+◌, ◌≤◌, List, ◌++◌, length, take, drop, Option, Some, None, sym, ap, subst, ◌∙◌, append_assoc}
use Rattle.std.proofs.lemmas.List.{drop-drop, take-append-drop, append-nil}
use Rattle.rds_link.specs.Streaming.{SourceGave, SourceGaveAll, IsAtEnd, SinkGained}

-- the first `written` bytes went to the sink
pub record Written (held_then held_now : Option (List ℕ)) (faults_then faults_now : ℕ) (bytes : List ℕ) (written : ℕ) : Type 0 where
  pub took : SinkGained held_then held_now (take written bytes)
  pub within : written ≤ length bytes
  pub quiet : faults_now ≡ faults_then

-- the bytes came from the front of the source
pub record Collected (left_then left_now : Option (List ℕ)) (faults_then faults_now : ℕ) (bytes : List ℕ) (most : ℕ) : Type 0 where
  pub handed : SourceGave left_then left_now bytes
  pub within : length bytes ≤ most
  pub quiet : faults_now ≡ faults_then

-- a sink that took bytes and then more took both
pub Takes-then : (old mid new : Option (List ℕ)) (xs ys zs : List ℕ) → zs ≡ xs ++ ys → SinkGained old mid xs → SinkGained mid new ys → SinkGained old new zs
Takes-then None mid new xs ys zs e first second = tt
Takes-then (Some held) mid new xs ys zs e first second =
    let after : SinkGained (Some (held ++ xs)) new ys = subst (λ (m : Option (List ℕ)). SinkGained m new ys) first second in
    after ∙ ap Some (append_assoc held xs ys ∙ ap (λ (w : List ℕ). held ++ w) (sym e))

-- a source that handed out bytes and then more handed out both
pub Hands-then : (old mid new : Option (List ℕ)) (xs ys : List ℕ) → SourceGave old mid xs → SourceGave mid new ys → SourceGave old new (xs ++ ys)
Hands-then None mid new xs ys first second = tt
Hands-then (Some all) None new xs ys first second = absurd first
Hands-then (Some all) (Some rest) None xs ys first second = absurd second
Hands-then (Some all) (Some rest) (Some left) xs ys first second =
    first ∙ ap (λ (w : List ℕ). xs ++ w) second ∙ sym (append_assoc xs ys left)

-- a read that copied the front of the rest handed it out
pub front_handed : (text copied : List ℕ) (taken n : ℕ) → take n copied ≡ take n (drop taken text) →
    drop taken text ≡ take n copied ++ drop (taken + n) text
front_handed text copied taken n is =
    sym (take-append-drop n (drop taken text))
    ∙ ap (λ (w : List ℕ). w ++ drop n (drop taken text)) (sym is)
    ∙ ap (λ (w : List ℕ). take n copied ++ w) (drop-drop n taken text)

-- a source whose end of input was reached has handed out all, and has nothing left
pub at_end : (old mid new : Option (List ℕ)) (bytes piece : List ℕ) (count : ℕ) → count ≡ 0 → SourceGave old mid bytes → IsAtEnd mid → SourceGave mid new (take count piece) → SourceGaveAll old new bytes
at_end None mid new bytes piece count none handed ended read = tt
at_end (Some all) None new bytes piece count none handed ended read = absurd handed
at_end (Some all) (Some rest) None bytes piece count none handed ended read = absurd read
at_end (Some all) (Some rest) (Some left) bytes piece count none handed ended read = (
  handed ∙ (ap (λ (w : List ℕ). bytes ++ w) ended ∙ append-nil bytes),
  ap Some (ap (λ (n : ℕ). take n piece ++ left) (sym none) ∙ (sym read ∙ ended)),
)
