-- Texts that are written one behind another.
use Rattle.std.proofs.Common.{◌≡◌, ◌∙◌, ◌<◌, ℕ, zero, suc, Option, Some, None, Result, Ok, Err, OnErr, List, [], ◌∷◌, ◌++◌, length, take, drop, get_or, refl, sym, ap, subst, append_assoc, drop-cons}
use Rattle.std.specs.List.{flat_map}
use Rattle.std.proofs.lemmas.List.{take-append-drop}
use Rattle.std.proofs.lemmas.Grind.{flat_map-append}
use Rattle.rds_link.specs.Streaming.{SinkGained, SinkGainedFront}

-- one more text was written
gained_more : (old mid new : Option (List ℕ)) (a b : List ℕ) → SinkGained old mid a → SinkGained mid new b → SinkGained old new (a ++ b)
gained_more None mid new a b one two = tt
gained_more (Some old) mid new a b one two = subst (λ (m : Option (List ℕ)). SinkGained m new b) one two ∙ ap Some (append_assoc old a b)

-- a beginning of a list is one of a longer list, also behind another
front_of : (b rest : List ℕ) (n : ℕ) → (k : ℕ) × (take k (b ++ rest) ≡ take n b)
front_of [] rest zero = (0, refl)
front_of [] rest (suc n) = (0, refl)
front_of (x ∷ b) rest zero = (0, refl)
front_of (x ∷ b) rest (suc n) = let f = front_of b rest n in (suc f.0, ap (λ (l : List ℕ). x ∷ l) f.1)

front_behind : (a b rest : List ℕ) (n : ℕ) → (k : ℕ) × (take k (a ++ (b ++ rest)) ≡ a ++ take n b)
front_behind [] b rest n = front_of b rest n
front_behind (x ∷ a) b rest n = let f = front_behind a b rest n in (suc f.0, ap (λ (l : List ℕ). x ∷ l) f.1)

front_more : (old mid new : Option (List ℕ)) (a b rest : List ℕ) → SinkGained old mid a → SinkGainedFront mid new b → SinkGainedFront old new (a ++ (b ++ rest))
front_more old mid new a b rest one two =
    let f = front_behind a b rest two.0 in
    (f.0, subst (SinkGained old new) (sym f.1) (gained_more old mid new a (take two.0 b) one two.1))

-- a beginning of the text at a place was written behind those before it
pub front_at : {T : Type 0} (bytes : T → List ℕ) (texts : List T) (i : ℕ) (text : T) (old mid new : Option (List ℕ)) → i < length texts → text ≡ get_or texts i text →
    SinkGained old mid (flat_map bytes (take i texts)) → SinkGainedFront mid new (bytes text) → SinkGainedFront old new (flat_map bytes texts)
front_at {T} bytes texts i text old mid new below is one two =
    let cut : texts ≡ take i texts ++ (text ∷ drop (suc i) texts) =
    sym (take-append-drop i texts) ∙ ap (λ (l : List T). take i texts ++ l) (drop-cons texts i text below ∙ ap (λ (t : T). t ∷ drop (suc i) texts) (sym is)) in
    subst (SinkGainedFront old new) (sym (ap (flat_map bytes) cut ∙ flat_map-append bytes (take i texts) (text ∷ drop (suc i) texts)))
    (front_more old mid new (flat_map bytes (take i texts)) (bytes text) (flat_map bytes (drop (suc i) texts)) one two)

-- what holds in any case holds after a failure
pub on_err : {A E : Type 0} (result : Result A E) {P : Type 0} → P → OnErr result P
on_err (Ok value) holds = tt
on_err (Err error) holds = holds
