-- A new table keeps the rule.
use Rattle.std.proofs.Common.{◌≡◌, ℕ, zero, suc, List, [], ◌∷◌, length, replicate, refl, sym, ap, ◌∙◌, subst, arith}
use Rattle.std.proofs.lemmas.List.{length-replicate}
use Rattle.std.specs.Prelude.{slice_index}
use mathlib.Core.Option.{some-ne-none, some-injective}
use Rattle.rds_seats.specs.Views.{At, Each}
use Rattle.rds_bindtab.specs.declared.view.View.{View}
use Rattle.rds_bindtab.specs.Seats.{first_view}
use Rattle.rds_bindtab.specs.Shared.{Shared, HoldsPort}
use Rattle.rds_bindtab.proofs.Notes.{nothing_in}

each_of_one : (P : View → Type 0) (v : View) → P v → Each (v ∷ []) P
each_of_one P v p zero u at = subst P (some-injective _ _ at) p
each_of_one P v p (suc j) u at = absurd (some-ne-none u (sym at))

one_place : (v u : View) (j : ℕ) → At (v ∷ []) j u → j ≡ 0
one_place v u zero at = refl
one_place v u (suc j) at = absurd (some-ne-none u (sym at))

pub opens : (slots : ℕ) (words : List ℕ) → length words ≡ 65537 → ((k : ℕ) → slice_index words k ≡ 0) → Shared slots words (first_view slots ∷ [])
opens slots words size zeros =
    let v = first_view slots in
    let vs = v ∷ [] in
    record {
      size = size;
      ports = λ port slot small. ((λ e. absurd (let z = zeros port in omega arith)), (λ k. absurd (each_of_one (λ u. HoldsPort port slot u → ⊥) v (λ q. let p = q.0 in cc) k.0 k.1 k.2 k.3)));
      drawn = zeros 65536;
      apart = λ i j a b slot x y p q. one_place v a i x ∙ sym (one_place v b j y);
      below = each_of_one _ v (λ slot e. absurd (cc));
      claimed = each_of_one _ v (λ port slot k. absurd (let p = k.0 in cc));
      told = each_of_one _ v (λ t m. absurd (nothing_in t m));
      looked = each_of_one _ v (λ port found told m. absurd (nothing_in _ m));
      seated = refl;
      few = each_of_one _ v (omega arith);
    }

zeros_at : (n k : ℕ) → slice_index (replicate n 0) k ≡ 0
zeros_at zero k = refl
zeros_at (suc n) zero = refl
zeros_at (suc n) (suc k) = zeros_at n k

pub opens_zeros : (slots n : ℕ) (words : List ℕ) → n ≡ 65537 → words ≡ replicate n 0 → Shared slots words (first_view slots ∷ [])
opens_zeros slots n words count zeros = opens slots words (ap length zeros ∙ (length-replicate n 0 ∙ count)) (λ k. ap (λ (ws : List ℕ). slice_index ws k) zeros ∙ zeros_at n k)
