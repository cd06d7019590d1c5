-- What a word stands for, found by reading, is what the grammar says.
use Rattle.std.proofs.Common.{◌≡◌, ℕ, ◌+◌, ◌-◌, ◌<◌, ◌≤◌, true, List, [], ◌∷◌, Some, refl, sym, ap, subst, arith}
use Rattle.std.specs.Prelude.{option_and_then}
use Rattle.std.proofs.lemmas.Bool.{and_parts, and_from, leb-true, ltb-true, le-leb, lt-ltb}
use Rattle.std.proofs.lemmas.Option.{cond_some, option_and_then_some}
use Rattle.rds_script.specs.Word.{IsHost, IsNumber, IsNumberIn}
use Rattle.rds_script.specs.Reading.{host_of, numeral_of, is_numeral, in_range}
use Rattle.rds_script.proofs.Numbers.{all_digits, are_digits}

-- ---- hosts

pub host-found : (hosts : ℕ) (word : List ℕ) (n : ℕ) → host_of hosts word ≡ Some n → IsHost hosts word n
unfolding host_of
host-found hosts [] n e = absurd cc
host-found hosts (letter ∷ []) n e =
    let c = cond_some _ _ _ e in
    let parts = and_parts _ _ c.0 in
    let low : 65 ≤ letter = leb-true _ _ parts.0 in
    let high : letter - 65 < hosts = ltb-true _ _ parts.1 in
    let n-is : letter - 65 ≡ n = c.1 in
    let is : letter ≡ 65 + n = omega arith in
    record { letter = ap (λ (b : ℕ). b ∷ []) is; known = omega arith }
host-found hosts (letter ∷ more ∷ rest) n e = absurd cc

pub host-again : (hosts : ℕ) (word : List ℕ) (n : ℕ) → IsHost hosts word n → host_of hosts word ≡ Some n
unfolding host_of
host-again hosts word n h =
    let back : (65 + n) - 65 ≡ n = omega arith in
    rw (h.letter, back, le-leb 65 (65 + n) (omega arith), lt-ltb n hosts h.known) refl

-- ---- numbers

pub number-found : (word : List ℕ) (n : ℕ) → numeral_of word ≡ Some n → IsNumber word n
unfolding numeral_of
number-found word n e =
    let c = cond_some _ _ _ e in
    let parts = and_parts _ _ c.0 in
    let more = and_parts _ _ parts.1 in
    record { digits = (ltb-true _ _ parts.0, all_digits word more.1); few = leb-true _ _ more.0; value = sym c.1 }

pub number-again : (word : List ℕ) (n : ℕ) → IsNumber word n → numeral_of word ≡ Some n
unfolding numeral_of
number-again word n h =
    let test : is_numeral word ≡ true = and_from _ _ (lt-ltb _ _ h.digits.0) (and_from _ _ (le-leb _ _ h.few) (are_digits word h.digits.1)) in
    rw test (ap Some (sym h.value))

pub number_in-found : (low high : ℕ) (word : List ℕ) (n : ℕ) → option_and_then (in_range low high) (numeral_of word) ≡ Some n → IsNumberIn low high word n
number_in-found low high word n e =
    option_and_then_some (in_range low high) (numeral_of word) n e
    (λ x x-is in-is. let c = cond_some _ _ _ in-is in let parts = and_parts _ _ c.0 in subst (IsNumberIn low high word) c.1 (record { number = number-found word x x-is; from = leb-true _ _ parts.0; to = leb-true _ _ parts.1 }))

pub number_in-again : (low high : ℕ) (word : List ℕ) (n : ℕ) → IsNumberIn low high word n → option_and_then (in_range low high) (numeral_of word) ≡ Some n
number_in-again low high word n h =
    rw (number-again word n h.number) (rw (and_from _ _ (le-leb low n h.from) (le-leb n high h.to)) refl)
