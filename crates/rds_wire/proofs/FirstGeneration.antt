-- The first generation number in a list of extensions, by what stands at its front.
use Rattle.std.proofs.Common.{◌≡◌, ◌⊎◌, ℕ, zero, suc, ◌+◌, ◌<◌, ◌≤◌, ◌^◌, ◌==◌, ◌||◌, nat_le, List, [], ◌∷◌, ◌++◌, length, take, drop, get_or, refl, sym, ap, ◌∙◌, subst, arith, inl, inr, Bool, true, false, cond, leb, length-drop}
use Rattle.std.proofs.lemmas.Bool.{cases_lt, cond-true, eqb-true, le-leb, leb-true, or_cases}
use Rattle.std.proofs.lemmas.List.{drop-drop, take-append-drop}
use Rattle.std.proofs.lemmas.List.Elements.{All-from_get_or, All-drop}
use Rattle.std.proofs.Math.Seq.{take-add}
use Rattle.byteorder.specs.Endian.{big_bytes, big_number}
use Rattle.byteorder.specs.Numbers.{big_from-lt, big_number-reads_back}
use Rattle.rds_wire.specs.declared.ext.Ext.{Ext}
use Rattle.rds_wire.specs.declared.ext.Ext.TheVariants.{Version, RdmaKey, RdmaDest, Paths, Generation}
use Rattle.rds_wire.specs.Bytes.{IsBytes}
use Rattle.rds_wire.specs.DecodingLaws.{byte_lt, take-number_2, take-number_4}
use Rattle.rds_wire.specs.Extensions.{BeginsWith, ext_bytes, StandsAt}
use Rattle.rds_wire.specs.Generations.{first_generation, whole_number}

-- none is found in fewer bytes than are still to come of another extension
first_generation-short : (left : ℕ) (bytes : List ℕ) → length bytes ≤ left → first_generation left bytes ≡ 0
first_generation-short left [] short = refl
first_generation-short zero (byte ∷ bytes) short = absurd (omega arith)
first_generation-short (suc left) (byte ∷ bytes) short = first_generation-short left bytes (omega arith)

-- bytes of another extension are passed over
pub first_generation-drop : (left : ℕ) (bytes : List ℕ) → first_generation left bytes ≡ first_generation 0 (drop left bytes)
first_generation-drop zero bytes = refl
first_generation-drop (suc left) [] = refl
first_generation-drop (suc left) (byte ∷ bytes) = first_generation-drop left bytes

-- what an extension at the front comes to
abbrev pub found_in : Ext → List ℕ → ℕ
found_in (Version version) bytes = first_generation 0 (drop 5 bytes)
found_in (RdmaKey key) bytes = first_generation 0 (drop 5 bytes)
found_in (RdmaDest key offset) bytes = first_generation 0 (drop 9 bytes)
found_in (Paths paths) bytes = first_generation 0 (drop 3 bytes)
found_in (Generation generation) bytes = generation

-- the number that an extension with that number at the front has
number-front : (n : ℕ) (rest : List ℕ) → n < 2 ^ 32 → 4 ≤ length rest → take 4 rest ≡ big_bytes 4 n → whole_number rest ≡ n
number-front n rest fits long is =
    let whole : rest ≡ big_bytes 4 n ++ drop 4 rest = sym (take-append-drop 4 rest) ∙ (λ i. is i ++ drop 4 rest) in
    let read : big_number 4 rest ≡ n = ap (big_number 4) whole ∙ big_number-reads_back 4 n (drop 4 rest) fits in
    cond-true (leb 4 (length rest)) (big_number 4 rest) 0 (le-leb 4 (length rest) long) ∙ read

begins-at : (kind : ℕ) (rest : List ℕ) (e : Ext) → BeginsWith (kind ∷ rest) e → first_generation 0 (kind ∷ rest) ≡ found_in e (kind ∷ rest)
begins-at kind rest (Version version) is =
    let bytes : kind ∷ take 4 rest ≡ 1 ∷ big_bytes 4 version = is.bytes in
    let same : kind ≡ 1 = cc in
    (λ i. first_generation 0 (same i ∷ rest)) ∙ first_generation-drop 4 rest
begins-at kind rest (RdmaKey key) is =
    let bytes : kind ∷ take 4 rest ≡ 2 ∷ big_bytes 4 key = is.bytes in
    let same : kind ≡ 2 = cc in
    (λ i. first_generation 0 (same i ∷ rest)) ∙ first_generation-drop 4 rest
begins-at kind rest (RdmaDest key offset) is =
    let bytes : kind ∷ take 8 rest ≡ 3 ∷ (big_bytes 4 key ++ big_bytes 4 offset) = is.bytes in
    let same : kind ≡ 3 = cc in
    (λ i. first_generation 0 (same i ∷ rest)) ∙ first_generation-drop 8 rest
begins-at kind rest (Paths paths) is =
    let bytes : kind ∷ take 2 rest ≡ 5 ∷ big_bytes 2 paths = is.bytes in
    let same : kind ≡ 5 = cc in
    (λ i. first_generation 0 (same i ∷ rest)) ∙ first_generation-drop 2 rest
begins-at kind rest (Generation n) is =
    let bytes : kind ∷ take 4 rest ≡ 6 ∷ big_bytes 4 n = is.bytes in
    let same : kind ≡ 6 = cc in
    let front : take 4 rest ≡ big_bytes 4 n = cc in
    (λ i. first_generation 0 (same i ∷ rest)) ∙ number-front n rest is.fits (omega (arith, is.within)) front

-- where an extension stands at the front, its number or what follows it counts
pub first_generation-begins : (bytes : List ℕ) (e : Ext) → BeginsWith bytes e → first_generation 0 bytes ≡ found_in e bytes
first_generation-begins [] (Version version) is = absurd (omega (arith, is.within))
first_generation-begins [] (RdmaKey key) is = absurd (omega (arith, is.within))
first_generation-begins [] (RdmaDest key offset) is = absurd (omega (arith, is.within))
first_generation-begins [] (Paths paths) is = absurd (omega (arith, is.within))
first_generation-begins [] (Generation n) is = absurd (omega (arith, is.within))
first_generation-begins (kind ∷ rest) e is = begins-at kind rest e is

cond-zero : (b : Bool) (x y : ℕ) → (b ≡ true → x ≡ 0) → (b ≡ false → y ≡ 0) → cond b x y ≡ 0
cond-zero true x y then otherwise = then refl
cond-zero false x y then otherwise = otherwise refl

-- bytes at the front are those of their number
number_lt : (rest : List ℕ) → IsBytes rest → big_number 4 rest < 2 ^ 32
number_lt rest bytes = big_from-lt 0 4 rest (byte_lt rest bytes)

front-4 : (rest : List ℕ) → IsBytes rest → 4 ≤ length rest → take 4 rest ≡ big_bytes 4 (big_number 4 rest)
front-4 rest bytes long = take-number_4 rest (big_number 4 rest) long (byte_lt rest bytes) refl

Generation-front : (rest : List ℕ) → IsBytes rest → 4 ≤ length rest → BeginsWith (6 ∷ rest) (Generation (big_number 4 rest))
Generation-front rest bytes long = record {
  fits = number_lt rest bytes;
  within = omega arith;
  bytes = ap (λ (xs : List ℕ). 6 ∷ xs) (front-4 rest bytes long);
}

Version-front : (rest : List ℕ) → IsBytes rest → 4 ≤ length rest → BeginsWith (1 ∷ rest) (Version (big_number 4 rest))
Version-front rest bytes long = record {
  fits = number_lt rest bytes;
  within = omega arith;
  bytes = ap (λ (xs : List ℕ). 1 ∷ xs) (front-4 rest bytes long);
}

RdmaKey-front : (rest : List ℕ) → IsBytes rest → 4 ≤ length rest → BeginsWith (2 ∷ rest) (RdmaKey (big_number 4 rest))
RdmaKey-front rest bytes long = record {
  fits = number_lt rest bytes;
  within = omega arith;
  bytes = ap (λ (xs : List ℕ). 2 ∷ xs) (front-4 rest bytes long);
}

Paths-front : (rest : List ℕ) → IsBytes rest → 2 ≤ length rest → BeginsWith (5 ∷ rest) (Paths (big_number 2 rest))
Paths-front rest bytes long = record {
  fits = big_from-lt 0 2 rest (byte_lt rest bytes);
  within = omega arith;
  bytes = ap (λ (xs : List ℕ). 5 ∷ xs) (take-number_2 rest (big_number 2 rest) long (byte_lt rest bytes) refl);
}

RdmaDest-front : (rest : List ℕ) → IsBytes rest → 8 ≤ length rest
    → BeginsWith (3 ∷ rest) (RdmaDest (big_number 4 rest) (big_number 4 (drop 4 rest)))
RdmaDest-front rest bytes long =
    let after : IsBytes (drop 4 rest) = All-drop (λ x. x < 256) 4 rest bytes in
    let key = front-4 rest bytes (omega arith) in
    let offset = front-4 (drop 4 rest) after (omega (arith, length-drop 4 rest)) in
    record {
      fits = (number_lt rest bytes, number_lt (drop 4 rest) after);
      within = omega arith;
      bytes = ap (λ (xs : List ℕ). 3 ∷ xs) (take-add 4 4 rest ∙ (λ i. key i ++ offset i));
    }

-- data that would pass the end hold no number
past : (n : ℕ) (rest : List ℕ) → (n ≤ length rest → ⊥) → first_generation n rest ≡ 0
past n rest not_whole = elim (cases_lt (length rest) n) [
  | inl short ↦ first_generation-short n rest (omega arith)
  | inr long ↦ absurd (not_whole long)
]

none-at : (kind : ℕ) (rest : List ℕ) → IsBytes rest → ((e : Ext) → BeginsWith (kind ∷ rest) e → ⊥) → first_generation 0 (kind ∷ rest) ≡ 0
none-at kind rest bytes none =
    let never = λ (k : ℕ) (e : Ext) (same : kind ≡ k) (front : BeginsWith (k ∷ rest) e).
    none e (subst (λ (m : ℕ). BeginsWith (m ∷ rest) e) (sym same) front) in
    cond-zero (kind == 6) _ _
    (λ is. cond-zero (nat_le 4 (length rest)) _ _
    (λ long. absurd (never 6 (Generation (big_number 4 rest)) (eqb-true kind 6 is) (Generation-front rest bytes (leb-true 4 (length rest) long))))
    (λ short. refl))
    (λ _. cond-zero (kind == 1 || kind == 2) _ _
    (λ is. past 4 rest (λ long. elim (or_cases (kind == 1) (kind == 2) is) [
      | inl one ↦ never 1 (Version (big_number 4 rest)) (eqb-true kind 1 one) (Version-front rest bytes long)
      | inr two ↦ never 2 (RdmaKey (big_number 4 rest)) (eqb-true kind 2 two) (RdmaKey-front rest bytes long)
    ]))
    (λ _. cond-zero (kind == 3) _ _
    (λ is. past 8 rest (λ long.
    never 3 (RdmaDest (big_number 4 rest) (big_number 4 (drop 4 rest))) (eqb-true kind 3 is) (RdmaDest-front rest bytes long)))
    (λ _. cond-zero (kind == 5) _ _
    (λ is. past 2 rest (λ long. never 5 (Paths (big_number 2 rest)) (eqb-true kind 5 is) (Paths-front rest bytes long)))
    (λ _. refl))))

-- where no extension stands at the front, there is none
pub first_generation-none : (bytes : List ℕ) → IsBytes bytes → ((e : Ext) → BeginsWith bytes e → ⊥) → first_generation 0 bytes ≡ 0
first_generation-none [] bytes none = refl
first_generation-none (kind ∷ rest) bytes none =
    none-at kind rest (All-drop (λ x. x < 256) 1 (kind ∷ rest) bytes) none

-- the same from a place on
begins-there : (area : List ℕ) (pos : ℕ) (e : Ext) → StandsAt area pos e → BeginsWith (drop pos area) e
begins-there area pos e is = record { fits = is.fits; within = omega (arith, length-drop pos area, is.within); bytes = is.bytes }

stands-there : (area : List ℕ) (pos : ℕ) (e : Ext) → pos ≤ length area → BeginsWith (drop pos area) e → StandsAt area pos e
stands-there area pos e inside is = record { fits = is.fits; within = omega (arith, length-drop pos area, is.within); bytes = is.bytes }

pub generation-none : (area : List ℕ) (pos : ℕ) → ((i : ℕ) → get_or area i 0 < 256) → pos ≤ length area
    → ((e : Ext) → StandsAt area pos e → ⊥) → first_generation 0 (drop pos area) ≡ 0
generation-none area pos byte inside none =
    let bytes : IsBytes area = All-from_get_or (λ x. x < 256) area 0 (λ i below. byte i) in
    first_generation-none (drop pos area) (All-drop (λ x. x < 256) pos area bytes) (λ e is. none e (stands-there area pos e inside is))

-- what is found at a place, or after what stands there
abbrev pub found_at : Ext → List ℕ → ℕ → ℕ
found_at (Generation generation) area after = generation
found_at (Version version) area after = first_generation 0 (drop after area)
found_at (RdmaKey key) area after = first_generation 0 (drop after area)
found_at (RdmaDest key offset) area after = first_generation 0 (drop after area)
found_at (Paths paths) area after = first_generation 0 (drop after area)

pub generation-found : (area : List ℕ) (pos after : ℕ) (e : Ext) → StandsAt area pos e → after ≡ pos + length (ext_bytes e)
    → first_generation 0 (drop pos area) ≡ found_at e area after
generation-found area pos after e is next = first_generation-begins (drop pos area) e (begins-there area pos e is) ∙ same e next
  where
    same : (e : Ext) → after ≡ pos + length (ext_bytes e) → found_in e (drop pos area) ≡ found_at e area after
    same (Generation n) next = refl
    same (Version n) next = ap (first_generation 0) (drop-drop 5 pos area ∙ ap (λ n. drop n area) (omega (arith, next)))
    same (RdmaKey n) next = ap (first_generation 0) (drop-drop 5 pos area ∙ ap (λ n. drop n area) (omega (arith, next)))
    same (RdmaDest k n) next = ap (first_generation 0) (drop-drop 9 pos area ∙ ap (λ n. drop n area) (omega (arith, next)))
    same (Paths n) next = ap (first_generation 0) (drop-drop 3 pos area ∙ ap (λ n. drop n area) (omega (arith, next)))

-- behind each other extension it is what follows that counts
pub found_behind : (area : List ℕ) (after : ℕ) (e : Ext) → ((v : ℕ) × (e ≡ Version v)) ⊎ (((k : ℕ) × (e ≡ RdmaKey k))
    ⊎ (((k : ℕ) × (o : ℕ) × (e ≡ RdmaDest k o)) ⊎ ((p : ℕ) × (e ≡ Paths p)))) → found_at e area after ≡ first_generation 0 (drop after area)
found_behind area after e (inl is) = ap (λ (x : Ext). found_at x area after) is.1
found_behind area after e (inr (inl is)) = ap (λ (x : Ext). found_at x area after) is.1
found_behind area after e (inr (inr (inl is))) = ap (λ (x : Ext). found_at x area after) is.2
found_behind area after e (inr (inr (inr is))) = ap (λ (x : Ext). found_at x area after) is.1
