-- What a step of one joint does to its mesh.
use Rattle.std.proofs.Common.{◌≡◌, ◌≢◌, ◌⊎◌, inl, inr, ℕ, zero, suc, ◌<◌, Result, Ok, Err, List, [], ◌∷◌, length, get_or, set, refl, sym, ◌∙◌, ap, subst, arith}
use Rattle.std.specs.Prelude.{OnOk, IfOk, min}
use Rattle.std.proofs.lemmas.List.{set-get_or}
use Rattle.rds_model.specs.declared.entry.TheConstants.{MAX_SLOTS}
use Rattle.rds_play_pair.specs.declared.step.PairEnd.{PairEnd}
use Rattle.rds_play_pair.specs.declared.step.PairEnd.TheVariants.{First, Second}
use Rattle.rds_play_pair.specs.Ends.{HasFull, IsFull, JointEnd, JointEnds, at_both, blank, facing, of_end, other_end, with_end}
use Rattle.rds_play_pair.specs.Steps.{came, fed, went}
use Rattle.rds_play_mesh.specs.Places.{end_of, place, triangle}
use Rattle.rds_play_mesh.specs.Ends.{AreNew, ChangesPair, IsNewMesh, MeshView, end_at, joint_of, new_joint}
use Rattle.rds_play_mesh.proofs.Places.{both_changed, bytes_went, facing_is, one_changed, opposite, there, within}

-- inside a list an item is the same, whatever is meant by none
pub at_inside : {X : Type 0} (xs : List X) (i : ℕ) (a b : X) → i < length xs → get_or xs i a ≡ get_or xs i b
at_inside [] i a b in_ = absurd (omega (arith, in_))
at_inside (x ∷ xs) zero a b in_ = refl
at_inside (x ∷ xs) (suc i) a b in_ = at_inside xs i a b (omega (arith, in_))

-- two hosts of a mesh, and where their joint was found
pub record Found (h k i : ℕ) (x : PairEnd) (q : JointEnds) (m : MeshView) : Type 0 where
  pub host : h < m.count
  pub peer : k < m.count
  pub apart : k ≢ h
  pub full : length m.joints ≡ triangle m.count
  pub at : i ≡ place h k
  pub end : x ≡ end_of h k
  pub is : q ≡ get_or m.joints i q

pub inside : (h k i : ℕ) (m : MeshView) → h < m.count → k < m.count → k ≢ h → length m.joints ≡ triangle m.count → i ≡ place h k → i < length m.joints
inside h k i m host peer apart full at = let w = within h k m.count host peer apart in omega (arith, w, at, full)

pub found_is : (h k i : ℕ) (x : PairEnd) (q : JointEnds) (m : MeshView) → Found h k i x q m → q ≡ joint_of h k m
found_is h k i x q m f =
    f.is ∙ at_inside m.joints i q (record { first = blank 0 0; second = blank 0 0 }) (inside h k i m f.host f.peer f.apart f.full f.at)
    ∙ ap (λ j. get_or m.joints j (record { first = blank 0 0; second = blank 0 0 })) f.at

-- the end that was found, and the one that it faces
pub here_is : (h k i : ℕ) (x : PairEnd) (q : JointEnds) (m : MeshView) → Found h k i x q m → of_end x q ≡ end_at h k m
here_is h k i x q m f = ap (λ e. of_end e q) f.end ∙ ap (of_end (end_of h k)) (found_is h k i x q m f)

pub there_is : (h k i : ℕ) (x : PairEnd) (q : JointEnds) (m : MeshView) → Found h k i x q m → facing x q ≡ end_at k h m
there_is h k i x q m f =
    ap (λ e. facing e q) f.end ∙ facing_is (end_of h k) q ∙ ap (of_end (other_end (end_of h k))) (found_is h k i x q m f) ∙ sym (there h k m f.apart)

-- a mesh whose joint of h and k is this one now
abbrev pub with_joint : ℕ → JointEnds → MeshView → MeshView
with_joint i p m = record { count = m.count; joints = set m.joints i p }

pub one_ok : {A E : Type 0} (r : Result A E) (h k i : ℕ) (x : PairEnd) (q p : JointEnds) (m : MeshView) (f g : JointEnd → JointEnd) → Found h k i x q m →
    f (end_at h k m) ≡ g (end_at h k m) →
    OnOk r (p ≡ with_end x f q) → OnOk r (ChangesPair h k (g (end_at h k m)) (end_at k h m) m (with_joint i p m))
one_ok (Err e) h k i x q p m f g found same done = tt
one_ok (Ok a) h k i x q p m f g found same done =
    subst (λ j. ChangesPair h k (g (end_at h k m)) (end_at k h m) m (with_joint j p m)) (sym found.at)
    (subst (λ here. ChangesPair h k here (end_at k h m) m (with_joint (place h k) p m)) same
    (one_changed h k f p m found.host found.peer found.apart found.full
    (done ∙ ap (λ e. with_end e f q) found.end ∙ ap (with_end (end_of h k) f) (found_is h k i x q m found))))

pub both_ok : {A E : Type 0} (r : Result A E) (h k i : ℕ) (q p : JointEnds) (m : MeshView) (f : JointEnd → JointEnd) → Found h k i (end_of h k) q m →
    OnOk r (p ≡ at_both f q) → OnOk r (ChangesPair h k (f (end_at h k m)) (f (end_at k h m)) m (with_joint i p m))
both_ok (Err e) h k i q p m f found done = tt
both_ok (Ok a) h k i q p m f found done =
    subst (λ j. ChangesPair h k (f (end_at h k m)) (f (end_at k h m)) m (with_joint j p m)) (sym found.at)
    (both_changed h k f p m found.host found.peer found.apart found.full (done ∙ ap (at_both f) (found_is h k i (end_of h k) q m found)))

-- one of both is full
pub full_ok : (entries h k i : ℕ) (q : JointEnds) (m : MeshView) → Found h k i (end_of h k) q m → HasFull entries q →
    IsFull entries (end_at h k m) ⊎ IsFull entries (end_at k h m)
full_ok entries h k i q m found full =
    go (end_of h k) (here_is h k i (end_of h k) q m found) (there_is h k i (end_of h k) q m found) full
  where
    go : (x : PairEnd) → of_end x q ≡ end_at h k m → facing x q ≡ end_at k h m → IsFull entries q.first ⊎ IsFull entries q.second →
        IsFull entries (end_at h k m) ⊎ IsFull entries (end_at k h m)
    go First here there_ (inl a) = inl (subst (IsFull entries) here a)
    go First here there_ (inr b) = inr (subst (IsFull entries) there_ b)
    go Second here there_ (inl a) = inr (subst (IsFull entries) there_ a)
    go Second here there_ (inr b) = inl (subst (IsFull entries) here b)

-- the end that the peer's end faces
pub faced_is : (h k i : ℕ) (q : JointEnds) (m : MeshView) → Found h k i (end_of h k) q m → facing (end_of k h) q ≡ end_at h k m
faced_is h k i q m found =
    ap (λ e. facing e q) (opposite h k found.apart) ∙ turned (end_of h k) ∙ here_is h k i (end_of h k) q m found
  where
    turned : (x : PairEnd) → facing (other_end x) q ≡ of_end x q
    turned First = refl
    turned Second = refl

-- and the other way round
pub facing_at : (h k i : ℕ) (q : JointEnds) (m : MeshView) → Found h k i (end_of h k) q m → of_end (end_of k h) q ≡ end_at k h m
facing_at h k i q m found =
    ap (λ e. of_end e q) (opposite h k found.apart) ∙ sym (facing_is (end_of h k) q) ∙ there_is h k i (end_of h k) q m found

pub fed_ok : {E : Type 0} (r : Result ℕ E) (h k i : ℕ) (q p : JointEnds) (m : MeshView) → Found h k i (end_of h k) q m →
    IfOk r (λ used. p ≡ fed (end_of k h) used q) →
    IfOk r (λ used. ChangesPair h k (went used (end_at h k m)) (came used (end_at h k m) (end_at k h m)) m (with_joint i p m))
fed_ok (Err e) h k i q p m found done = tt
fed_ok (Ok n) h k i q p m found done =
    subst (λ j. ChangesPair h k (went n (end_at h k m)) (came n (end_at h k m) (end_at k h m)) m (with_joint j p m)) (sym found.at)
    (bytes_went h k n p m found.host found.peer found.apart found.full (done ∙ ap (fed (end_of k h) n) (found_is h k i (end_of h k) q m found)))

pub fed_used : {E : Type 0} (r : Result ℕ E) (h k i bytes : ℕ) (q : JointEnds) (m : MeshView) → Found h k i (end_of h k) q m →
    IfOk r (λ used. used ≡ min bytes (length (facing (end_of k h) q).flying)) → IfOk r (λ used. used ≡ min bytes (length (end_at h k m).flying))
fed_used (Err e) h k i bytes q m found used = tt
fed_used (Ok n) h k i bytes q m found used = used ∙ ap (λ (e : JointEnd). min bytes (length e.flying)) (faced_is h k i q m found)

-- a joint that stays as it is leaves the mesh so
pub same_mesh : (i : ℕ) (q p : JointEnds) (m : MeshView) → q ≡ get_or m.joints i q → p ≡ q → with_joint i p m ≡ m
same_mesh i q p m is same =
    ap (λ (l : List JointEnds). record { count = m.count; joints = l }) (ap (set m.joints i) (same ∙ is) ∙ set-get_or m.joints i q)

-- where no joint has a past, no end has
pub all_new : (hosts limit : ℕ) (joints : List JointEnds) → length joints ≡ triangle hosts → AreNew limit joints →
    IsNewMesh hosts limit (record { count = hosts; joints = joints })
all_new hosts limit joints full new = record {
  count_is = refl;
  blank_ends = λ h k h_in k_in apart.
      ap (of_end (end_of h k))
      (new (place h k) (record { first = blank 0 0; second = blank 0 0 })
      (let w = within h k hosts h_in k_in apart in omega (arith, w, full)))
      ∙ alike (end_of h k);
}
  where
    alike : (x : PairEnd) → of_end x (new_joint limit) ≡ blank MAX_SLOTS limit
    alike First = refl
    alike Second = refl
