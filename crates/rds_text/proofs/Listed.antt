-- Lists of numbers that grow at their end, as they are written.
use Rattle.std.proofs.Common.{◌≡◌, ◌≢◌, ℕ, zero, suc, ◌+◌, ◌*◌, ◌<◌, ◌==◌, length, inl, inr, add-zero, Bool, true, false, List, [], ◌∷◌, ◌++◌, filter, map, refl, sym, ap, ◌∙◌, append_assoc, append-nil, add-one, arith}
use Rattle.std.proofs.lemmas.Bool.Decides.{nat_tests}
use Rattle.std.proofs.lemmas.List.{map-append}
use Rattle.std.proofs.lemmas.List.Concat.{flat_map-append}
use Rattle.std.proofs.lemmas.List.Elements.{filter-append}
use Rattle.std.specs.Fmt.{decimal}
use Rattle.std.proofs.lemmas.Bool.{cases_lt, false≢true, true≢false}
use Rattle.std.proofs.lemmas.Nat.Bits.{bit_at-trailing_zeros}
use Rattle.std.specs.Int.{bit_at, trailing_zeros, w8}
use Rattle.rds_text.specs.Words.{dash, numbers, listed, after_comma, after_commas}
use Rattle.rds_text.specs.Ports.{below, ports_of_byte, ports_from}

-- whether something stands before what follows these numbers
abbrev pub started : Bool → List ℕ → Bool
started any [] = any
started any (n ∷ ns) = true

pub listed-append : (any : Bool) (ms ns : List ℕ) → listed any (ms ++ ns) ≡ listed any ms ++ listed (started any ms) ns
listed-append true [] ns = refl
listed-append true (m ∷ ms) ns = flat_map-append after_comma (m ∷ ms) ns
listed-append false [] ns = refl
listed-append false (m ∷ ms) ns =
    ap (λ (l : List ℕ). decimal m ++ l) (flat_map-append after_comma ms ns) ∙ sym (append_assoc (decimal m) (after_commas ms) (after_commas ns))

pub started-append : (any : Bool) (ms ns : List ℕ) → started any (ms ++ ns) ≡ started (started any ms) ns
started-append any [] ns = refl
started-append any (m ∷ ms) [] = refl
started-append any (m ∷ ms) (n ∷ ns) = refl

-- the set ports of a byte at its bits below k
abbrev pub ports_below : ℕ → ℕ → ℕ → List ℕ
ports_below first byte k = map (λ bit. first + bit) (filter (λ bit. bit_at byte bit == 1) (below k))

ports_below-suc : (first byte k : ℕ) → ports_below first byte (suc k) ≡ ports_below first byte k ++ map (λ bit. first + bit) (filter (λ bit. bit_at byte bit == 1) (k ∷ []))
ports_below-suc first byte k =
    ap (map (λ bit. first + bit)) (filter-append (λ bit. bit_at byte bit == 1) (below k) (k ∷ []))
    ∙ map-append (λ bit. first + bit) (filter (λ bit. bit_at byte bit == 1) (below k)) (filter (λ bit. bit_at byte bit == 1) (k ∷ []))

ports_below-suc_set : (first byte k : ℕ) → bit_at byte k ≡ 1 → ports_below first byte (suc k) ≡ ports_below first byte k ++ (first + k) ∷ []
ports_below-suc_set first byte k set = rw (ports_below-suc first byte k, set) refl

pub ports_below-set : (first byte k : ℕ) → bit_at byte k ≡ 1 → ports_below first byte (k + 1) ≡ ports_below first byte k ++ (first + k) ∷ []
ports_below-set first byte k set = rw add-one (ports_below-suc_set first byte k set)

pub ports_below-clear : (first byte k : ℕ) → bit_at byte k ≢ 1 → ports_below first byte (k + 1) ≡ ports_below first byte k
ports_below-clear first byte k clear =
    let off : (bit_at byte k == 1) ≡ false = grind (arith, nat_tests) in
    rw (add-one, ports_below-suc first byte k, off) (append-nil _)

started-true : (ns : List ℕ) → started true ns ≡ true
started-true [] = refl
started-true (n ∷ ns) = refl

-- a bit that is set below n makes a port
started-set : (any : Bool) (first byte k n : ℕ) → bit_at byte k ≡ 1 → k < n → started any (ports_below first byte n) ≡ true
started-set any first byte k zero set h = absurd (omega arith)
started-set any first byte k (suc n) set h =
    elim (cases_lt k n) [
      | inl before ↦
          rw (ports_below-suc first byte n, started-append any (ports_below first byte n), started-set any first byte k n set before)
          (started-true _)
      | inr last ↦
          let e : k ≡ n = omega arith in
          rw (ports_below-suc_set first byte n (rw e at set), started-append any (ports_below first byte n) ((first + n) ∷ [])) refl
    ]

-- a byte that isn't 0 has a set port
pub started-byte : (any : Bool) (first byte : ℕ) → byte ≢ 0 → byte < 256 → started any (ports_of_byte first byte) ≡ true
started-byte any first byte nonzero small =
    let bit = bit_at-trailing_zeros w8 byte (omega arith) small in
    started-set any first byte (trailing_zeros w8 byte) 8 bit.1 bit.0

pub ports_from-push : (first : ℕ) (bytes : List ℕ) (byte : ℕ) → ports_from first (bytes ++ byte ∷ []) ≡ ports_from first bytes ++ ports_of_byte (first + 8 * length bytes) byte
ports_from-push first [] byte = rw (add-zero first) (append-nil _)
ports_from-push first (b ∷ bytes) byte =
    rw (ports_from-push (first + 8) bytes byte, append_assoc (ports_of_byte first b))
    (ap (λ n. ports_of_byte first b ++ (ports_from (first + 8) bytes ++ ports_of_byte n byte)) (omega arith))

pub numbers-started : (ns : List ℕ) → started false ns ≡ true → numbers ns ≡ listed false ns
numbers-started [] e = absurd (false≢true e)
numbers-started (n ∷ ns) e = refl

pub numbers-none : (ns : List ℕ) → started false ns ≡ false → (listed false ns ≡ []) × (numbers ns ≡ dash)
numbers-none [] e = (refl, refl)
numbers-none (n ∷ ns) e = absurd (true≢false e)
