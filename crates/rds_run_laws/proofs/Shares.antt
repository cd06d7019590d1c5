-- Sums over places, and what several hosts' commands send together.
use Rattle.std.proofs.Common.{◌≡◌, ℕ, zero, suc, ◌+◌, ◌≤◌, Bool, true, false, cond, Option, Some, None, List, [], ◌∷◌, length, slice_get, refl, sym, ap, ◌∙◌, arith}
use Rattle.std.proofs.lemmas.Bool.{eqb-true}
use Rattle.rds_seats.specs.Views.{total}
use Rattle.rds_script.specs.declared.script.Placed.{Placed}
use Rattle.rds_run_callers.specs.Commands.{commander}
use Rattle.rds_run_hosts.specs.Obeyed.{is_host}
use Rattle.rds_run_laws.specs.Put.{own_sum}
use Rattle.rds_run_laws.specs.Sent.{sent_by, sent_sum}
use Rattle.rds_run_laws.specs.Weights.{Weight}
use Rattle.rds_run_laws.proofs.At.{sum_up}

pub sum_up_plus : (f g : ℕ → ℕ) (from count : ℕ) → sum_up (λ i. f i + g i) from count ≡ sum_up f from count + sum_up g from count
sum_up_plus f g from zero = refl
sum_up_plus f g from (suc count) = let rest = sum_up_plus f g (suc from) count in omega (arith, rest)

pub sum_up_none : (f : ℕ → ℕ) (from count : ℕ) → ((i : ℕ) → from ≤ i → f i ≡ 0) → sum_up f from count ≡ 0
sum_up_none f from zero none = refl
sum_up_none f from (suc count) none =
    let here = none from (omega arith) in
    let rest = sum_up_none f (suc from) count (λ i least. none i (omega (arith, least))) in
    omega (arith, here, rest)

pub sum_up_same : (f g : ℕ → ℕ) (from count : ℕ) → ((i : ℕ) → from ≤ i → f i ≡ g i) → sum_up f from count ≡ sum_up g from count
sum_up_same f g from zero same = refl
sum_up_same f g from (suc count) same =
    let here = same from (omega arith) in
    let rest = sum_up_same f g (suc from) count (λ i least. same i (omega (arith, least))) in
    omega (arith, here, rest)

pub sum_up_last : (f : ℕ → ℕ) (from count : ℕ) → sum_up f from (suc count) ≡ sum_up f from count + f (from + count)
sum_up_last f from zero = let same : f from ≡ f (from + 0) = ap f (omega arith) in omega (arith, same)
sum_up_last f from (suc count) =
    let rest = sum_up_last f (suc from) count in
    let same : f (suc from + count) ≡ f (from + suc count) = ap f (omega arith) in
    omega (arith, rest, same)

-- a value that counts at one number at most
pub once : (test : ℕ → Bool) (v from count : ℕ) → ((i j : ℕ) → test i ≡ true → test j ≡ true → i ≡ j) → sum_up (λ i. cond (test i) v 0) from count ≤ v
once test v from zero one = omega arith
once test v from (suc count) one = go (test from) refl (once test v (suc from) count one)
  where
    go : (b : Bool) → test from ≡ b → sum_up (λ i. cond (test i) v 0) (suc from) count ≤ v → cond b v 0 + sum_up (λ i. cond (test i) v 0) (suc from) count ≤ v
    go false is rest = omega (arith, rest)
    go true is rest =
        let none = sum_up_none (λ i. cond (test i) v 0) (suc from) count (λ i least. other i (test i) refl least) in
        omega (arith, none)
      where
        other : (i : ℕ) (b : Bool) → test i ≡ b → suc from ≤ i → cond (test i) v 0 ≡ 0
        other i false is_not least = ap (λ (t : Bool). cond t v 0) is_not
        other i true is_too least = let same = one from i is is_too in absurd (omega (arith, same, least))

-- numbers of a list are no more, place by place, than these
pub total_few : {T : Type 0} (f : T → ℕ) (g : ℕ → ℕ) (from : ℕ) (xs : List T) → ((i : ℕ) (x : T) → slice_get xs i ≡ Some x → f x ≤ g (from + i)) →
    total f xs ≤ sum_up g from (length xs)
total_few f g from [] each = omega arith
total_few f g from (x ∷ xs) each =
    let first = each 0 x refl in
    let same : g (from + 0) ≡ g from = ap g (omega arith) in
    let rest = total_few f g (suc from) xs (λ i y at. let here = each (suc i) y at in let next : g (from + suc i) ≡ g (suc from + i) = ap g (omega arith) in omega (arith, here, next)) in
    omega (arith, first, same, rest)

is_one : (a b : ℕ) (by : Option ℕ) → is_host a by ≡ true → is_host b by ≡ true → a ≡ b
is_one a b None one other = absurd (cc)
is_one a b (Some c) one other = sym (eqb-true c a one) ∙ eqb-true c b other

-- the commands of different hosts send no more than all commands
pub shares : (w : Weight) (number : ℕ → ℕ) → ((i j : ℕ) → number i ≡ number j → i ≡ j) → (from count : ℕ) (commands : List Placed) →
    sum_up (λ i. own_sum w (number i) commands) from count ≤ sent_sum w commands
shares w number once_each from count [] = let none = sum_up_none (λ i. 0) from count (λ i least. refl) in omega (arith, none)
shares w number once_each from count (placed ∷ commands) =
    let by = commander placed.command in
    let v = sent_by w placed.command in
    let split = sum_up_plus (λ i. cond (is_host (number i) by) v 0) (λ i. own_sum w (number i) commands) from count in
    let first = once (λ i. is_host (number i) by) v from count (λ i j one other. once_each i j (is_one (number i) (number j) by one other)) in
    let rest = shares w number once_each from count commands in
    omega (arith, split, first, rest)
