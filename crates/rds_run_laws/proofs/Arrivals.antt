-- What one end passed sums up to no more than what the other accepted, and to as much where each number was passed.
use Rattle.std.proofs.Common.{◌≡◌, ◌≢◌, ◌⊎◌, inl, inr, ℕ, zero, suc, ◌+◌, ◌<◌, ◌≤◌, ◌==◌, ◌&&◌, ◌||◌, Bool, true, false, cond, Option, Some, None, List, [], ◌∷◌, refl, sym, ap, subst, ◌∙◌, arith}
use Rattle.std.proofs.lemmas.Bool.{cases_lt, cases_eq, ne_eqb}
use Rattle.rds_wire.specs.declared.frame.Frame.{Frame}
use Rattle.rds_model.specs.declared.entry.Entry.{Entry}
use Rattle.rds_model.specs.declared.entry.Entry.TheVariants.{Accept, Cancel, Open, Pull, Read, Shut, Bad}
use Rattle.rds_model.specs.Past.{Accepted, Moment, now, before, accepted, datagram, last_passed, number, passes}
use Rattle.rds_model.specs.Streams.{was_passed}
use Rattle.rds_model.specs.Fifo.{Carries, IsFifo}
use Rattle.rds_model.specs.NumberLaws.{datagram_newest, datagram_other, number_of_known}
use Rattle.rds_run_laws.specs.Weights.{Weight, accepted_sum, passed_sum}

-- the past of an entry at a moment
pub rest_of : {e : Entry} {p j : List Entry} → Moment (e ∷ p) j → Moment p j
rest_of now = before now
rest_of (before m) = before (rest_of m)

module _ (w : Weight) where
  abbrev worth : Option Accepted → ℕ
  worth None = 0
  worth (Some d) = w d.sport d.dport d.payload

  -- what carries a datagram weighs as much
  same_weight : (f : Frame) (d : Accepted) → Carries f d → w f.header.sport f.header.dport f.payload ≡ w d.sport d.dport d.payload
  same_weight f d carries = λ i. w (carries.sport i) (carries.dport i) (carries.payload i)

  -- of the first n numbers that were accepted
  abbrev up_sum : List Entry → ℕ → ℕ
  up_sum a zero = 0
  up_sum a (suc n) = up_sum a n + worth (datagram a (suc n))

  up_same : (a b : List Entry) (n : ℕ) → ((m : ℕ) → m ≤ n → datagram a m ≡ datagram b m) → up_sum a n ≡ up_sum b n
  up_same a b zero same = refl
  up_same a b (suc n) same =
      let first = up_same a b n (λ m le. same m (omega (arith, le))) in
      let last = same (suc n) (omega arith) in
      ap (λ (k : ℕ). k + worth (datagram a (suc n))) first ∙ ap (λ (o : Option Accepted). up_sum b n + worth o) last

  up_all : (a : List Entry) → up_sum a (accepted a) ≡ accepted_sum w a
  up_all [] = refl
  up_all (Accept slot sport dport payload ∷ past) =
      let all = Accept slot sport dport payload ∷ past in
      let first = up_same all past (accepted past) (λ m le. datagram_other slot sport dport payload past m (λ same. omega (arith, same, le))) in
      let last = datagram_newest slot sport dport payload past (suc (accepted past)) refl in
      ap (λ (k : ℕ). k + worth (datagram all (suc (accepted past)))) (first ∙ up_all past)
      ∙ ap (λ (o : Option Accepted). accepted_sum w past + worth o) last
  up_all (Cancel slot target ∷ past) = up_same (Cancel slot target ∷ past) past (accepted past) (λ m le. refl) ∙ up_all past
  up_all (Open s ∷ past) = up_same (Open s ∷ past) past (accepted past) (λ m le. refl) ∙ up_all past
  up_all (Pull s f ∷ past) = up_same (Pull s f ∷ past) past (accepted past) (λ m le. refl) ∙ up_all past
  up_all (Read s f o ∷ past) = up_same (Read s f o ∷ past) past (accepted past) (λ m le. refl) ∙ up_all past
  up_all (Shut s ∷ past) = up_same (Shut s ∷ past) past (accepted past) (λ m le. refl) ∙ up_all past
  up_all (Bad s h found ∷ past) = up_same (Bad s h found ∷ past) past (accepted past) (λ m le. refl) ∙ up_all past

  up_rise : (a : List Entry) (m n : ℕ) → m ≤ n → up_sum a m ≤ up_sum a n
  up_rise a m zero le = let is : m ≡ 0 = omega (arith, le) in subst (λ (k : ℕ). up_sum a k ≤ 0) (sym is) (omega arith)
  up_rise a m (suc n) le =
      elim (cases_eq m (suc n)) [
        | inl is ↦ subst (λ (k : ℕ). up_sum a m ≤ up_sum a k) is (omega arith)
        | inr other ↦ let first = up_rise a m n (omega (arith, le, other)) in omega (arith, first)
      ]

  none_above : (a : List Entry) (n : ℕ) → accepted a < n → datagram a n ≡ None
  none_above a n above = go (datagram a n) refl
    where
      go : (o : Option Accepted) → datagram a n ≡ o → o ≡ None
      go None is = refl
      go (Some d) is = let known = number_of_known a n (rw is refl) in absurd (omega (arith, known.1, above))

  up_flat : (a : List Entry) (n : ℕ) → up_sum a n ≤ up_sum a (accepted a)
  up_flat a zero = omega arith
  up_flat a (suc n) =
      elim (cases_lt (accepted a) (suc n)) [
        | inl above ↦
            let none = ap worth (none_above a (suc n) above) in
            let first = up_flat a n in
            omega (arith, none, first)
        | inr within ↦ up_rise a (suc n) (accepted a) within
      ]

  up_most : (a : List Entry) (n : ℕ) → up_sum a n ≤ accepted_sum w a
  up_most a n = let all = up_all a in let flat = up_flat a n in omega (arith, all, flat)

  module _ (a b : List Entry) (fifo : IsFifo a b) where
    passed_front : (p : List Entry) → Moment p b → passed_sum w p ≤ up_sum a (last_passed p)
    passed_front [] m = omega arith
    passed_front (Read s f o ∷ p) m = go (passes o) refl (passed_front p (rest_of m))
      where
        go : (is : Bool) → passes o ≡ is → passed_sum w p ≤ up_sum a (last_passed p) →
            cond is (passed_sum w p + w f.header.sport f.header.dport f.payload) (passed_sum w p) ≤ up_sum a (cond is (number f) (last_passed p))
        go false is ih = ih
        go true is ih =
            let rise = fifo.rise s f o p m is in
            let found = fifo.accepted s f o p m is in
            step (number f) rise found.0 found.1 (same_weight f found.0 found.2) ih
          where
            step : (n : ℕ) → last_passed p < n → (d : Accepted) → datagram a n ≡ Some d → w f.header.sport f.header.dport f.payload ≡ w d.sport d.dport d.payload → passed_sum w p ≤ up_sum a (last_passed p) →
                passed_sum w p + w f.header.sport f.header.dport f.payload ≤ up_sum a n
            step zero rise d known carries ih = absurd (omega (arith, rise))
            step (suc n) rise d known carries ih =
                let here : worth (datagram a (suc n)) ≡ w d.sport d.dport d.payload = ap worth known in
                let up = up_rise a (last_passed p) n (omega (arith, rise)) in
                omega (arith, here, up, ih, carries)
    passed_front (Accept slot sport dport payload ∷ p) m = passed_front p (rest_of m)
    passed_front (Cancel slot target ∷ p) m = passed_front p (rest_of m)
    passed_front (Open s ∷ p) m = passed_front p (rest_of m)
    passed_front (Pull s f ∷ p) m = passed_front p (rest_of m)
    passed_front (Shut s ∷ p) m = passed_front p (rest_of m)
    passed_front (Bad s h found ∷ p) m = passed_front p (rest_of m)

    pub passed_few : passed_sum w b ≤ accepted_sum w a
    passed_few = let front = passed_front b now in let most = up_most a (last_passed b) in omega (arith, front, most)

    -- of the first n numbers those that were passed
    abbrev some_sum : List Entry → ℕ → ℕ
    some_sum p zero = 0
    some_sum p (suc n) = some_sum p n + cond (was_passed p (suc n)) (worth (datagram a (suc n))) 0

    some_same : (p q : List Entry) → ((m : ℕ) → was_passed p m ≡ was_passed q m) → (n : ℕ) → some_sum p n ≡ some_sum q n
    some_same p q same zero = refl
    some_same p q same (suc n) =
        ap (λ (k : ℕ). k + cond (was_passed p (suc n)) (worth (datagram a (suc n))) 0) (some_same p q same n)
        ∙ ap (λ (t : Bool). some_sum q n + cond t (worth (datagram a (suc n))) 0) (same (suc n))

    none_some : (n : ℕ) → some_sum [] n ≡ 0
    none_some zero = refl
    none_some (suc n) = let ih = none_some n in omega (arith, ih)

    at_most : (t : Bool) (x : ℕ) → cond t x 0 ≤ x
    at_most true x = omega arith
    at_most false x = omega arith

    -- one more passed number adds at most its own
    one_more : (p q : List Entry) (k : ℕ) → ((m : ℕ) → was_passed q m ≡ (k == m || was_passed p m)) → (n : ℕ) →
        (some_sum q n ≤ some_sum p n + worth (datagram a k)) × (n < k → some_sum q n ≤ some_sum p n)
    one_more p q k more zero = (omega arith, λ less. omega arith)
    one_more p q k more (suc n) = go (one_more p q k more n) (cases_eq k (suc n))
      where
        v : ℕ
        v = worth (datagram a (suc n))

        go : (some_sum q n ≤ some_sum p n + worth (datagram a k)) × (n < k → some_sum q n ≤ some_sum p n) → (k ≡ suc n) ⊎ (k ≢ suc n) →
            (some_sum q (suc n) ≤ some_sum p (suc n) + worth (datagram a k)) × (suc n < k → some_sum q (suc n) ≤ some_sum p (suc n))
        go both (inl is) =
            let ih = both.1 (omega (arith, is)) in
            let most : cond (was_passed q (suc n)) v 0 ≤ v = at_most (was_passed q (suc n)) v in
            let same : v ≡ worth (datagram a k) = ap (λ (i : ℕ). worth (datagram a i)) (sym is) in
            (omega (arith, ih, most, same), λ less. absurd (omega (arith, less, is)))
        go both (inr other) =
            let e : was_passed q (suc n) ≡ was_passed p (suc n) = more (suc n) ∙ ap (λ (x : Bool). x || was_passed p (suc n)) (ne_eqb k (suc n) other) in
            let same : cond (was_passed q (suc n)) v 0 ≡ cond (was_passed p (suc n)) v 0 = ap (λ (x : Bool). cond x v 0) e in
            let first = both.0 in
            (omega (arith, first, same), λ less. let second = both.1 (omega (arith, less)) in omega (arith, second, same))

    some_few : (n : ℕ) (p : List Entry) → Moment p b → some_sum p n ≤ passed_sum w p
    some_few n [] m = let none = none_some n in omega (arith, none)
    some_few n (Read s f o ∷ p) m = go (passes o) refl (some_few n p (rest_of m))
      where
        go : (is : Bool) → passes o ≡ is → some_sum p n ≤ passed_sum w p → some_sum (Read s f o ∷ p) n ≤ cond is (passed_sum w p + w f.header.sport f.header.dport f.payload) (passed_sum w p)
        go false is ih =
            let same = some_same (Read s f o ∷ p) p (λ k. ap (λ (t : Bool). t && (number f == k) || was_passed p k) is) n in
            omega (arith, ih, same)
        go true is ih =
            let more = (one_more p (Read s f o ∷ p) (number f) (λ k. ap (λ (t : Bool). t && (number f == k) || was_passed p k) is) n).0 in
            let found = fifo.accepted s f o p m is in
            let here : worth (datagram a (number f)) ≡ w found.0.sport found.0.dport found.0.payload = ap worth found.1 in
            let carries = same_weight f found.0 found.2 in
            omega (arith, ih, more, here, carries)
    some_few n (Accept slot sport dport payload ∷ p) m = subst (λ (k : ℕ). k ≤ passed_sum w p) (sym (some_same (Accept slot sport dport payload ∷ p) p (λ k. refl) n)) (some_few n p (rest_of m))
    some_few n (Cancel slot target ∷ p) m = subst (λ (k : ℕ). k ≤ passed_sum w p) (sym (some_same (Cancel slot target ∷ p) p (λ k. refl) n)) (some_few n p (rest_of m))
    some_few n (Open s ∷ p) m = subst (λ (k : ℕ). k ≤ passed_sum w p) (sym (some_same (Open s ∷ p) p (λ k. refl) n)) (some_few n p (rest_of m))
    some_few n (Pull s f ∷ p) m = subst (λ (k : ℕ). k ≤ passed_sum w p) (sym (some_same (Pull s f ∷ p) p (λ k. refl) n)) (some_few n p (rest_of m))
    some_few n (Shut s ∷ p) m = subst (λ (k : ℕ). k ≤ passed_sum w p) (sym (some_same (Shut s ∷ p) p (λ k. refl) n)) (some_few n p (rest_of m))
    some_few n (Bad s h found ∷ p) m = subst (λ (k : ℕ). k ≤ passed_sum w p) (sym (some_same (Bad s h found ∷ p) p (λ k. refl) n)) (some_few n p (rest_of m))

    up_some : (n : ℕ) → ((k : ℕ) → 0 < k → k ≤ n → was_passed b k ≡ true) → up_sum a n ≡ some_sum b n
    up_some zero all = refl
    up_some (suc n) all =
        let ih = up_some n (λ k least most. all k least (omega (arith, most))) in
        let this = ap (λ (t : Bool). cond t (worth (datagram a (suc n))) 0) (all (suc n) (omega arith) (omega arith)) in
        omega (arith, ih, this)

    pub passed_all : ((k : ℕ) → 0 < k → k ≤ accepted a → was_passed b k ≡ true) → passed_sum w b ≡ accepted_sum w a
    passed_all all =
        let few = passed_few in
        let is = up_all a in
        let same = up_some (accepted a) all in
        let enough = some_few (accepted a) b now in
        omega (arith, few, is, same, enough)
