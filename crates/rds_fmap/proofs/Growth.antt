-- Lists of maps that grow: what was a word of one of their maps stays one.
use Rattle.std.proofs.Common.{◌≡◌, ℕ, zero, suc, ◌+◌, ◌*◌, ◌<◌, List, [], ◌∷◌, ◌++◌, length, slice_get, Some, refl, sym, ap, ◌∙◌, subst, arith}
use Rattle.std.proofs.lemmas.List.{append-nil, length-append}
use Rattle.rds_cong.specs.Map.{has_port}
use Rattle.rds_fmap.specs.Shared.{IsWordOf}
use Rattle.rds_fmap.specs.Views.{version_in}
use Rattle.rds_cong.specs.HalfLaws.{port-append}

-- a list goes on where another ends
abbrev pub Begins : List ℕ → List ℕ → Type 0
Begins xs ys = (rest : List ℕ) × (ys ≡ xs ++ rest)

-- each map is still there by its version, and may have become longer
abbrev pub Grows : List (List ℕ) → List (List ℕ) → Type 0
Grows old new = (v : ℕ) (m : List ℕ) → slice_get old v ≡ Some m → (n : List ℕ) × (slice_get new v ≡ Some n) × Begins m n

pub word_grows : (old new : List (List ℕ)) (j n : ℕ) → Grows old new → IsWordOf old j n → IsWordOf new j n
word_grows old new j n g w =
    let k = g (version_in n) w.map w.version in
    let rest = k.2.0 in
    let is : k.0 ≡ w.map ++ rest = k.2.1 in
    let long : length k.0 ≡ length w.map + length rest = ap length is ∙ length-append w.map rest in
    record {
      map = k.0;
      version = k.1;
      put = (let p = w.put in omega arith);
      ports = λ b h. w.ports b h ∙ sym (ap (λ m. has_port m (32 * j + b)) is ∙ port-append w.map rest (32 * j + b) (let p = w.put in omega arith));
    }

-- the last map becomes longer, and others may come after it
pub last_grows : (pre post : List (List ℕ)) (x y : List ℕ) → Begins x y → Grows (pre ++ x ∷ []) (pre ++ y ∷ post)
last_grows [] post x y b zero m is = let e : x ≡ m = cc in (y, refl, subst (λ z. Begins z y) e b)
last_grows [] post x y b (suc v) m is = absurd (cc)
last_grows (p ∷ pre) post x y b zero m is = (p, refl, ([], (let e : p ≡ m = cc in subst (λ z. p ≡ z ++ []) e (sym (append-nil p)))))
last_grows (p ∷ pre) post x y b (suc v) m is = last_grows pre post x y b v m is

-- the map after so many others
pub get_seam : (pre post : List (List ℕ)) (x : List ℕ) → slice_get (pre ++ x ∷ post) (length pre) ≡ Some x
get_seam [] post x = refl
get_seam (p ∷ pre) post x = get_seam pre post x

pub get_at : (pre post : List (List ℕ)) (x : List ℕ) (v : ℕ) → v ≡ length pre → slice_get (pre ++ x ∷ post) v ≡ Some x
get_at pre post x v e = ap (slice_get (pre ++ x ∷ post)) e ∙ get_seam pre post x

-- a map that isn't empty isn't the empty one at the end
pub get_before : (maps : List (List ℕ)) (v : ℕ) (m : List ℕ) → slice_get (maps ++ [] ∷ []) v ≡ Some m → 0 < length m → slice_get maps v ≡ Some m
get_before [] zero m is some = absurd (let e : [] ≡ m = cc in let l : 0 ≡ length m = ap length e in omega arith)
get_before [] (suc v) m is some = absurd (cc)
get_before (p ∷ maps) zero m is some = is
get_before (p ∷ maps) (suc v) m is some = get_before maps v m is some
