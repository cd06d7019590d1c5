-- Bytes that count up, made from pieces that begin at 0.
use Rattle.std.proofs.Common.{◌≡◌, ℕ, zero, suc, ◌+◌, ◌*◌, ◌%◌, ◌/◌, List, [], ◌∷◌, ◌++◌, take, sym, ap, ◌∙◌, arith}
use Rattle.std.proofs.Math.Nat.{mul-add-mod_self_left}
use Rattle.std.proofs.lemmas.List.{append_assoc, append-nil}
use Rattle.std.proofs.lemmas.List.FromFn.{map-range_with_len_more, take-map-range_with_len}
use Rattle.rds_script.specs.Reading.{counting}

count-more : (n : ℕ) → counting (suc n) ≡ counting n ++ (n % 256) ∷ []
count-more n =
    let next : suc n ≡ n + 1 = omega arith in
    ap counting next ∙ map-range_with_len_more (λ (k : ℕ). k % 256) 0 n n (omega arith)

-- after whole tables the bytes begin again
pub count-again-from : (k n : ℕ) → counting (256 * k) ++ counting n ≡ counting (256 * k + n)
count-again-from k zero =
    let same : 256 * k ≡ 256 * k + 0 = omega arith in
    append-nil (counting (256 * k)) ∙ ap counting same
count-again-from k (suc n) =
    let low = counting (256 * k) in
    let next : suc (256 * k + n) ≡ 256 * k + suc n = omega arith in
    let byte : n % 256 ≡ (256 * k + n) % 256 = sym (mul-add-mod_self_left 256 k n) in
    ap (λ (l : List ℕ). low ++ l) (count-more n)
    ∙ sym (append_assoc low (counting n) ((n % 256) ∷ []))
    ∙ ap (λ (l : List ℕ). l ++ (n % 256) ∷ []) (count-again-from k n)
    ∙ ap (λ (b : ℕ). counting (256 * k + n) ++ b ∷ []) byte
    ∙ sym (count-more (256 * k + n))
    ∙ ap counting next

-- one more table
pub table-more : (table : List ℕ) (k : ℕ) → table ≡ counting 256 → counting (256 * k) ++ table ≡ counting (256 * (k + 1))
table-more table k e =
    let next : 256 * k + 256 ≡ 256 * (k + 1) = omega arith in
    ap (λ (l : List ℕ). counting (256 * k) ++ l) e ∙ count-again-from k 256 ∙ ap counting next

-- the part of a table that is left
pub table-rest : (table : List ℕ) (k n : ℕ) → table ≡ counting 256 → k ≡ n / 256 → counting (256 * k) ++ take (n % 256) table ≡ counting n
table-rest table k n e k-is =
    let whole : 256 * k + n % 256 ≡ n = omega (arith, k-is) in
    ap (λ (l : List ℕ). counting (256 * k) ++ take (n % 256) l) e
    ∙ ap (λ (l : List ℕ). counting (256 * k) ++ l) (take-map-range_with_len (λ (i : ℕ). i % 256) 0 256 (n % 256) (omega arith))
    ∙ count-again-from k (n % 256)
    ∙ ap counting whole
