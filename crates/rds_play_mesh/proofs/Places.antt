-- Where joints stand.
use Rattle.std.proofs.Common.{◌≡◌, ◌≢◌, ⊎_elim, ℕ, zero, suc, ◌+◌, ◌-◌, ◌*◌, ◌/◌, ◌<◌, ◌≤◌, Bool, true, false, cond, length, get_or, set, refl, sym, ◌∙◌, ap, subst, arith}
use Rattle.std.specs.Prelude.{nat_lt}
use Rattle.std.proofs.lemmas.Bool.{cases_lt, cases_eq, ltb-true, ltb-false}
use Rattle.std.proofs.lemmas.List.{get_or-set_same, get_or-set_other}
use Rattle.rds_play_pair.specs.Ends.{JointEnd, JointEnds, at_both, blank, facing, of_end, other_end, with_end}
use Rattle.rds_play_pair.specs.Steps.{came, fed, went}
use Rattle.rds_play_pair.specs.declared.step.PairEnd.{PairEnd}
use Rattle.rds_play_pair.specs.declared.step.PairEnd.TheVariants.{First, Second}
use Rattle.rds_play_mesh.specs.Places.{end_of, place, triangle}
use Rattle.rds_play_mesh.specs.Ends.{ChangesPair, IsOtherPair, MeshView, end_at, joint_of}

-- twice a triangle
twice : (n : ℕ) → triangle n + triangle n + n ≡ n * n
twice zero = refl
twice (suc n) = let e = twice n in omega (arith, e)

pub half : (n m : ℕ) → m ≡ n - 1 → n * m / 2 ≡ triangle n
half zero m is = let none : 0 * m ≡ 0 = omega arith in omega (arith, none)
half (suc n) m is =
    let e = twice n in
    let same : m ≡ n = omega (arith, is) in
    let all : suc n * m ≡ triangle (suc n) + triangle (suc n) = ap (λ i. suc n * i) same ∙ omega (arith, e) in
    omega (arith, all)

-- a row ends where the next begins
pub grows : (n m : ℕ) → n < m → triangle n + n ≤ triangle m
grows n zero less = absurd (omega (arith, less))
grows n (suc m) less = ⊎_elim
    (λ (e : n ≡ m). subst (λ i. triangle i + i ≤ triangle m + m) (sym e) (omega arith))
    (λ (ne : n ≡ m → ⊥). let before = grows n m (omega (arith, less, ne)) in omega (arith, before))
    (cases_eq n m)

-- a joint stands within the mesh
pub within : (h k c : ℕ) → h < c → k < c → k ≢ h → place h k < triangle c
within h k c h_in k_in apart = go (nat_lt h k) refl
  where
    go : (b : Bool) → nat_lt h k ≡ b → cond b (triangle k + h) (triangle h + k) < triangle c
    go true less = let row = grows k c k_in in let low = ltb-true h k less in omega (arith, row, low)
    go false more =
        let row = grows h c h_in in
        let high = ltb-false h k more in
        omega (arith, row, high, apart)

pub symmetric : (h k : ℕ) → k ≢ h → place k h ≡ place h k
symmetric h k apart = go (nat_lt h k) (nat_lt k h) refl refl
  where
    go : (b c : Bool) → nat_lt h k ≡ b → nat_lt k h ≡ c → cond c (triangle h + k) (triangle k + h) ≡ cond b (triangle k + h) (triangle h + k)
    go true true less more = absurd (let x = ltb-true h k less in let y = ltb-true k h more in omega (arith, x, y))
    go true false less more = refl
    go false true less more = refl
    go false false less more = absurd (let x = ltb-false h k less in let y = ltb-false k h more in omega (arith, x, y, apart))

-- two places in the rows are one only where the rows are
same_row : (low high other row : ℕ) → low < high → other < row → triangle high + low ≡ triangle row + other → (high ≡ row) × (low ≡ other)
same_row low high other row low_in other_in is = ⊎_elim
    (λ (e : high ≡ row). (e, (let t = ap triangle e in omega (arith, is, t))))
    (λ (ne : high ≡ row → ⊥). ⊎_elim
    (λ (less : high < row). absurd (let g = grows high row less in omega (arith, g, is, low_in)))
    (λ (more : row ≤ high). absurd (let g = grows row high (omega (arith, more, ne)) in omega (arith, g, is, other_in)))
    (cases_lt high row))
    (cases_eq high row)

other_place : (h k a b c : ℕ) → k ≢ h → IsOtherPair h k a b c → place a b ≢ place h k
other_place h k a b c apart other is = go (nat_lt a b) (nat_lt h k) refl refl is
  where
    go : (x y : Bool) → nat_lt a b ≡ x → nat_lt h k ≡ y → cond x (triangle b + a) (triangle a + b) ≡ cond y (triangle k + h) (triangle h + k) → ⊥
    go true true ab hk e =
        let same = same_row a b h k (ltb-true a b ab) (ltb-true h k hk) e in other.not_forth same.1 same.0
    go true false ab hk e =
        let high = ltb-false h k hk in
        let same = same_row a b k h (ltb-true a b ab) (omega (arith, high, apart)) e in other.not_back same.1 same.0
    go false true ab hk e =
        let high = ltb-false a b ab in
        let same = same_row b a h k (omega (arith, high, other.apart)) (ltb-true h k hk) e in other.not_back same.0 same.1
    go false false ab hk e =
        let high = ltb-false a b ab in
        let top = ltb-false h k hk in
        let same = same_row b a k h (omega (arith, high, other.apart)) (omega (arith, top, apart)) e in other.not_forth same.0 same.1

-- the two ends of a joint
pub opposite : (h k : ℕ) → k ≢ h → end_of k h ≡ other_end (end_of h k)
opposite h k apart = go (nat_lt h k) (nat_lt k h) refl refl
  where
    go : (b c : Bool) → nat_lt h k ≡ b → nat_lt k h ≡ c → cond c First Second ≡ other_end (cond b First Second)
    go true true less more = absurd (let x = ltb-true h k less in let y = ltb-true k h more in omega (arith, x, y))
    go true false less more = refl
    go false true less more = refl
    go false false less more = absurd (let x = ltb-false h k less in let y = ltb-false k h more in omega (arith, x, y, apart))

-- a joint was replaced, and nothing else
pub replaced : (h k : ℕ) (p : JointEnds) (m : MeshView) → h < m.count → k < m.count → k ≢ h → length m.joints ≡ triangle m.count →
    ChangesPair h k (of_end (end_of h k) p) (of_end (other_end (end_of h k)) p) m (record { count = m.count; joints = set m.joints (place h k) p })
replaced h k p m h_in k_in apart full = record {
  count_same = refl;
  here_is = ap (of_end (end_of h k)) (get_or-set_same m.joints (place h k) p none inside);
  there_is =
      ap (λ e. of_end e (joint_of k h new)) (opposite h k apart)
      ∙ ap (λ i. of_end (other_end (end_of h k)) (get_or (set m.joints (place h k) p) i none)) (symmetric h k apart)
      ∙ ap (of_end (other_end (end_of h k))) (get_or-set_same m.joints (place h k) p none inside);
  others_same = λ a b other. ap (of_end (end_of a b))
      (get_or-set_other m.joints (place h k) (place a b) p none (other_place h k a b m.count apart other));
}
  where
    none : JointEnds
    none = record { first = blank 0 0; second = blank 0 0 }

    new : MeshView
    new = record { count = m.count; joints = set m.joints (place h k) p }

    inside : place h k < length m.joints
    inside = subst (λ n. place h k < n) (sym full) (within h k m.count h_in k_in apart)

-- what a joint's clauses say of an end and the one that it faces
with_one : (x : PairEnd) (f : JointEnd → JointEnd) (q : JointEnds) → (of_end x (with_end x f q) ≡ f (of_end x q)) × (of_end (other_end x) (with_end x f q) ≡ of_end (other_end x) q)
with_one First f q = (refl, refl)
with_one Second f q = (refl, refl)

with_both : (x : PairEnd) (f : JointEnd → JointEnd) (q : JointEnds) → of_end x (at_both f q) ≡ f (of_end x q)
with_both First f q = refl
with_both Second f q = refl

pub facing_is : (x : PairEnd) (q : JointEnds) → facing x q ≡ of_end (other_end x) q
facing_is First q = refl
facing_is Second q = refl

fed_is : (x : PairEnd) (n : ℕ) (q : JointEnds) → (of_end x (fed (other_end x) n q) ≡ went n (of_end x q))
    × (of_end (other_end x) (fed (other_end x) n q) ≡ came n (of_end x q) (of_end (other_end x) q))
fed_is First n q = (refl, refl)
fed_is Second n q = (refl, refl)

-- the peer's end, in the joint of both
pub there : (h k : ℕ) (m : MeshView) → k ≢ h → end_at k h m ≡ of_end (other_end (end_of h k)) (joint_of h k m)
there h k m apart =
    ap (λ e. of_end e (joint_of k h m)) (opposite h k apart)
    ∙ ap (λ i. of_end (other_end (end_of h k)) (get_or m.joints i (record { first = blank 0 0; second = blank 0 0 }))) (symmetric h k apart)

restated : (h k : ℕ) (here was there_ were : JointEnd) (old new : MeshView) → was ≡ here → were ≡ there_ → ChangesPair h k was were old new → ChangesPair h k here there_ old new
restated h k here was there_ were old new is are c = record { count_same = c.count_same; here_is = c.here_is ∙ is; there_is = c.there_is ∙ are; others_same = c.others_same }

-- one end was changed
pub one_changed : (h k : ℕ) (f : JointEnd → JointEnd) (p : JointEnds) (m : MeshView) → h < m.count → k < m.count → k ≢ h →
    length m.joints ≡ triangle m.count → p ≡ with_end (end_of h k) f (joint_of h k m) →
    ChangesPair h k (f (end_at h k m)) (end_at k h m) m (record { count = m.count; joints = set m.joints (place h k) p })
one_changed h k f p m h_in k_in apart full is =
    let x = end_of h k in
    let q = joint_of h k m in
    restated h k (f (end_at h k m)) (of_end x p) (end_at k h m) (of_end (other_end x) p) m (record { count = m.count; joints = set m.joints (place h k) p })
    (ap (of_end x) is ∙ (with_one x f q).0) (ap (of_end (other_end x)) is ∙ (with_one x f q).1 ∙ sym (there h k m apart))
    (replaced h k p m h_in k_in apart full)

-- both ends were changed alike
pub both_changed : (h k : ℕ) (f : JointEnd → JointEnd) (p : JointEnds) (m : MeshView) → h < m.count → k < m.count → k ≢ h →
    length m.joints ≡ triangle m.count → p ≡ at_both f (joint_of h k m) →
    ChangesPair h k (f (end_at h k m)) (f (end_at k h m)) m (record { count = m.count; joints = set m.joints (place h k) p })
both_changed h k f p m h_in k_in apart full is =
    let x = end_of h k in
    let q = joint_of h k m in
    restated h k (f (end_at h k m)) (of_end x p) (f (end_at k h m)) (of_end (other_end x) p) m (record { count = m.count; joints = set m.joints (place h k) p })
    (ap (of_end x) is ∙ with_both x f q) (ap (of_end (other_end x)) is ∙ with_both (other_end x) f q ∙ ap f (sym (there h k m apart)))
    (replaced h k p m h_in k_in apart full)

-- bytes went over
pub bytes_went : (h k n : ℕ) (p : JointEnds) (m : MeshView) → h < m.count → k < m.count → k ≢ h →
    length m.joints ≡ triangle m.count → p ≡ fed (end_of k h) n (joint_of h k m) →
    ChangesPair h k (went n (end_at h k m)) (came n (end_at h k m) (end_at k h m)) m (record { count = m.count; joints = set m.joints (place h k) p })
bytes_went h k n p m h_in k_in apart full is =
    let x = end_of h k in
    let q = joint_of h k m in
    let made : p ≡ fed (other_end x) n q = is ∙ ap (λ e. fed e n q) (opposite h k apart) in
    restated h k (went n (end_at h k m)) (of_end x p) (came n (end_at h k m) (end_at k h m)) (of_end (other_end x) p) m (record { count = m.count; joints = set m.joints (place h k) p })
    (ap (of_end x) made ∙ (fed_is x n q).0)
    (ap (of_end (other_end x)) made ∙ (fed_is x n q).1 ∙ ap (came n (end_at h k m)) (sym (there h k m apart)))
    (replaced h k p m h_in k_in apart full)
