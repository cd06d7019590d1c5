-- A new meter keeps the rule; and so does the one seat into which all others were joined.
use Rattle.std.proofs.Common.{◌≡◌, ◌≢◌, ℕ, zero, suc, ◌+◌, ◌%◌, List, [], ◌∷◌, length, replicate, refl, sym, ap, ◌∙◌, subst, inl, arith}
use Rattle.std.proofs.lemmas.List.{length-replicate}
use Rattle.std.proofs.lemmas.Nat.Bits.{bit_at-zero}
use Rattle.std.specs.Prelude.{slice_index, Contains}
use Rattle.std.specs.Int.{bit_at}
use mathlib.Core.Logic.{dite}
use mathlib.Core.Option.{some-ne-none, some-injective}
use native.Mathlib.Decide.{ℕ_discrete}
use lib.ListN.{get_elem?}
use Rattle.rds_seats.specs.Views.{At, Has, Each, total}
use Rattle.rds_seats.specs.ViewLaws.{total_two}
use Rattle.rds_meter.specs.declared.view.View.{View}
use Rattle.rds_meter.specs.declared.view.Step.TheVariants.{Stored}
use Rattle.rds_meter.specs.Places.{part}
use Rattle.rds_meter.specs.Seats.{first_view}
use Rattle.rds_meter.specs.Shared.{Shared, HasStored, HasRaised}
use Rattle.rds_meter.proofs.Facts.{Rising, nothing_in, limit_on, stage_on, closed_on, opened_on, bits_on}
use Rattle.rds_meter.proofs.Steps.{IsIdle}

each_of_one : (P : View → Type 0) (v : View) → P v → Each (v ∷ []) P
each_of_one P v p zero u at = subst P (some-injective _ _ at) p
each_of_one P v p (suc j) u at = absurd (some-ne-none u (sym at))

pub opens : (slots : ℕ) (words : List ℕ) → length words ≡ 5121 → ((k : ℕ) → slice_index words k ≡ 0) → Shared words (first_view slots ∷ [])
opens slots words size zeros =
    let v = first_view slots in
    record {
      size = size;
      sums = λ word low high. zeros word;
      limits = λ slot small. inl (zeros slot);
      closed = each_of_one _ v (λ c m. absurd (nothing_in c m));
      opened = each_of_one _ v (λ c m. absurd (nothing_in c m));
      staged = each_of_one _ v tt;
      bits = λ word port low is set_bit. absurd (let z : bit_at (slice_index words word) (port % 64) ≡ 0 = ap (λ x. bit_at x (port % 64)) (zeros word) ∙ bit_at-zero (port % 64) in omega arith);
      loaded = each_of_one _ v (λ word found m. absurd (nothing_in _ m));
      seated = refl;
      few = each_of_one _ v (λ word. omega arith);
      idle = each_of_one _ v (λ none. absurd (omega arith));
    }

zeros_at : (n k : ℕ) → slice_index (replicate n 0) k ≡ 0
zeros_at zero k = refl
zeros_at (suc n) zero = refl
zeros_at (suc n) (suc k) = zeros_at n k

pub opens_zeros : (slots n : ℕ) (words : List ℕ) → n ≡ 5121 → words ≡ replicate n 0 → Shared words (first_view slots ∷ [])
opens_zeros slots n words count zeros = opens slots words (ap length zeros ∙ (length-replicate n 0 ∙ count)) (λ k. ap (λ (ws : List ℕ). slice_index ws k) zeros ∙ zeros_at n k)

-- all other seats have no number, so the total is the seat's own
total_alone : (f : View → ℕ) (views : List View) (id : ℕ) (v : View) → At views id v → ((j : ℕ) (u : View) → j ≢ id → At views j u → f u ≡ 0) → total f views ≡ f v
total_alone f [] id v at none = absurd (some-ne-none v (sym at))
total_alone f (x ∷ xs) zero v at none = let same : f x ≡ f v = ap f (some-injective x v at) in let rest = all_none f xs (λ j u e. none (suc j) u (λ z. absurd (omega arith)) e) in omega arith
  where
    all_none : (f : View → ℕ) (views : List View) → ((j : ℕ) (u : View) → At views j u → f u ≡ 0) → total f views ≡ 0
    all_none f [] none = refl
    all_none f (y ∷ ys) none = let a = none 0 y refl in let b = all_none f ys (λ j u e. none (suc j) u e) in omega arith
total_alone f (x ∷ xs) (suc id) v at none = let a = none 0 x (λ z. absurd (omega arith)) refl in let b = total_alone f xs id v at (λ j u apart e. none (suc j) u (λ z. apart (omega arith)) e) in omega arith

module _ (words : List ℕ) (views : List View) (id : ℕ) (v : View) (h : Shared words views) (here : At views id v) (all : v.weight + v.splits ≡ 4095) where
  abbrev one : List View
  one = v ∷ []

  -- the other seats know nothing
  others : (j : ℕ) (u : View) → j ≢ id → At views j u → (u.checks ≡ []) × (u.steps ≡ [])
  others j u apart at =
      let t = total_two (λ (x : View). x.weight + x.splits) views id j v u (λ e. apart (sym e)) here at in
      let s = h.seated in
      let k = h.idle j u at (omega arith) in
      (k.1, k.3)

  -- what some seat knows this one knows
  mine : (P : View → Type 0) → ((u : View) → u.checks ≡ [] → u.steps ≡ [] → P u → ⊥) → Has views P → Has one P
  mine P none k = dite (ℕ_discrete k.0 id)
      (λ same. (0, v, refl, subst P (some-injective _ _ (sym k.2 ∙ (ap (get_elem? views) same ∙ here))) k.3))
      (λ apart. let o = others k.0 k.1 apart k.2 in absurd (none k.1 o.0 o.1 k.3))

  stored : (slot limit : ℕ) → Has views (HasStored slot limit) → Has one (HasStored slot limit)
  stored slot limit = mine (HasStored slot limit) (λ u checks steps m. nothing_in (Stored slot limit) (subst (λ l. Contains l (Stored slot limit)) steps m))

  raised : (port : ℕ) → Has views (HasRaised port) → Has one (HasRaised port)
  raised port = mine (HasRaised port) (λ u checks steps m. nothing_in m.0 (subst (λ l. Contains l m.0) checks m.1))

  still : Rising words words
  still slot small = omega arith

  own : (f : View → ℕ) → ((u : View) → u.steps ≡ [] → f u ≡ 0) → total f views ≡ total f one
  own f none = total_alone f views id v here (λ j u apart at. none u (others j u apart at).1) ∙ (let z : f v ≡ f v + 0 = omega arith in z)

  pub alone : Shared words one
  alone = record {
    size = h.size;
    sums = λ word low high. h.sums word low high ∙ own (λ u. part word u.steps) (λ u steps. ap (part word) steps);
    limits = λ slot small. limit_on words words views one still stored slot _ (h.limits slot small);
    closed = each_of_one _ v (λ c m. closed_on words words views one still stored c (h.closed id v here c m));
    opened = each_of_one _ v (λ c m. opened_on words words views one still stored c (h.opened id v here c m));
    staged = each_of_one _ v (stage_on words words views one still stored v.stage (h.staged id v here));
    bits = λ word. bits_on views one raised word _ (h.bits word);
    loaded = each_of_one _ v (λ word found m. bits_on views one raised word found (h.loaded id v here word found m));
    seated = (let a = all in omega arith);
    few = each_of_one _ v (h.few id v here);
    idle = each_of_one IsIdle v (λ none. absurd (let a = all in omega arith));
  }
