-- How many places stand before the mark, where indexes leave and come.
use Rattle.std.proofs.Common.{◌≡◌, ◌≤◌, ◌<◌, ◌+◌, inl, inr, ℕ, suc, true, false, Option, Some, None, List, [], ◌∷◌, ◌++◌, length, arith, refl, sym, ap, ◌∙◌, get_or, slice_get, length-append}
use Rattle.std.proofs.lemmas.Bool.{cases_eq, cases_Bool, eq-eqb, ne_eqb, eqb-true}
use Rattle.std.specs.Option.{IfSome}
use Rattle.rds_model.specs.declared.entry.Msg.{Msg}
use Rattle.rds_msgs_lists.specs.Lists.{Place, IsOn, IsDistinct, first_index, indexes, times}
use Rattle.rds_msgs.specs.Kept.{count_before, is_at, mark_without, mark_with, messages_at, no_message}
use Rattle.rds_msgs.proofs.Places.{times_other, apart}

pub count_none : (xs : List Place) → count_before None xs ≡ length xs
count_none [] = refl
count_none (p ∷ xs) = ap suc (count_none xs)

pub count_most : (mark : Option ℕ) (xs : List Place) → count_before mark xs ≤ length xs
count_most mark [] = omega arith
count_most mark (p ∷ xs) = let h = count_most mark xs in elim (cases_Bool (is_at mark p.index)) [ inl t ↦ rw t (omega arith) | inr f ↦ rw f (omega arith) ]

-- at the front, and elsewhere
pub count_here : (k : ℕ) (p : Place) (xs : List Place) → p.index ≡ k → count_before (Some k) (p ∷ xs) ≡ 0
count_here k p xs e = let t = eq-eqb p.index k e in rw t refl

pub count_there : (k : ℕ) (p : Place) (xs : List Place) → (p.index ≡ k → ⊥) → count_before (Some k) (p ∷ xs) ≡ suc (count_before (Some k) xs)
count_there k p xs ne = let t = ne_eqb p.index k ne in rw t refl

-- an index that stands elsewhere is not the first
pub not_first : (k : ℕ) (p : Place) (xs : List Place) → times k (indexes (p ∷ xs)) ≡ 0 → (p.index ≡ k → ⊥) × (times k (indexes xs) ≡ 0)
not_first k p xs h = ((λ e. let t = eq-eqb p.index k e in grind arith), omega arith)

-- behind places where the mark is not
pub count_past : (k : ℕ) (before rest : List Place) → times k (indexes before) ≡ 0 → count_before (Some k) (before ++ rest) ≡ length before + count_before (Some k) rest
count_past k [] rest h = omega arith
count_past k (b ∷ before) rest h =
    let a = not_first k b before h in
    let c = count_there k b (before ++ rest) a.0 in
    let r = count_past k before rest a.1 in
    omega arith

-- within places where it is
pub count_within : (k : ℕ) (before rest : List Place) → IsOn before k → count_before (Some k) (before ++ rest) ≡ count_before (Some k) before
count_within k [] rest h = absurd (omega arith)
count_within k (b ∷ before) rest h =
    elim (cases_eq b.index k) [
      | inl e ↦ count_here k b (before ++ rest) e ∙ sym (count_here k b before e)
      | inr ne ↦
          let t = times_other k b.index (indexes before) ne in
          let r = count_within k before rest (omega arith) in
          let c = count_there k b (before ++ rest) ne in
          let d = count_there k b before ne in
          omega arith
    ]

-- at the place of the mark
pub count_at : (before : List Place) (p : Place) (rest : List Place) → IsDistinct (before ++ p ∷ rest) → count_before (Some p.index) (before ++ p ∷ rest) ≡ length before
count_at before p rest d =
    let a = apart before p rest d in
    let c = count_past p.index before (p ∷ rest) a.0 in
    let h = count_here p.index p rest refl in
    omega arith

-- at the first of the places behind
pub count_first : (before rest : List Place) → IsDistinct (before ++ rest) → count_before (first_index rest) (before ++ rest) ≡ length before
count_first before [] d = let n = count_none (before ++ []) in let m = length-append before [] in omega arith
count_first before (p ∷ rest) d = count_at before p rest d

-- an index that is not the mark leaves
pub count_off_other : (mark : Option ℕ) (before : List Place) (p : Place) (rest : List Place) → is_at mark p.index ≡ false
    → (length before < count_before mark (before ++ p ∷ rest) → count_before mark (before ++ rest) + 1 ≡ count_before mark (before ++ p ∷ rest))
    × (count_before mark (before ++ p ∷ rest) ≤ length before → count_before mark (before ++ rest) ≡ count_before mark (before ++ p ∷ rest))
count_off_other mark [] p rest ne =
    let c : count_before mark (p ∷ rest) ≡ suc (count_before mark rest) = rw ne refl in
    ((λ h. omega arith), (λ h. absurd (omega arith)))
count_off_other mark (b ∷ before) p rest ne =
    let r = count_off_other mark before p rest ne in
    elim (cases_Bool (is_at mark b.index)) [
      | inl t ↦
          let c : count_before mark (b ∷ (before ++ p ∷ rest)) ≡ 0 = rw t refl in
          let d : count_before mark (b ∷ (before ++ rest)) ≡ 0 = rw t refl in
          ((λ h. absurd (omega arith)), (λ h. omega arith))
      | inr f ↦
          let c : count_before mark (b ∷ (before ++ p ∷ rest)) ≡ suc (count_before mark (before ++ p ∷ rest)) = rw f refl in
          let d : count_before mark (b ∷ (before ++ rest)) ≡ suc (count_before mark (before ++ rest)) = rw f refl in
          ((λ h. let i = r.0 (omega arith) in omega arith), (λ h. let i = r.1 (omega arith) in omega arith))
    ]

pub is_at_same : (mark : Option ℕ) (k : ℕ) → is_at mark k ≡ true → mark ≡ Some k
is_at_same None k t = absurd (let n : false ≡ true = t in grind arith)
is_at_same (Some j) k t = ap Some (sym (eqb-true k j t))

-- an index leaves: of those before the mark there is one less, where the index stood there
pub record Moves (at mark left : ℕ) : Type 0 where
  pub pulled : at < mark → left + 1 ≡ mark
  pub other : mark ≤ at → left ≡ mark

pub count_off : (mark : Option ℕ) (before : List Place) (p : Place) (rest : List Place) → IsDistinct (before ++ p ∷ rest) → IsDistinct (before ++ rest)
    → Moves (length before) (count_before mark (before ++ p ∷ rest)) (count_before (mark_without p.index (first_index rest) mark) (before ++ rest))
count_off mark before p rest d d' =
    elim (cases_Bool (is_at mark p.index)) [
      | inl t ↦
          let m = is_at_same mark p.index t in
          let c : count_before mark (before ++ p ∷ rest) ≡ length before = rw m (count_at before p rest d) in
          let e : count_before (mark_without p.index (first_index rest) mark) (before ++ rest) ≡ length before = rw t (count_first before rest d') in
          record { pulled = λ h. absurd (omega arith); other = λ h. omega arith }
      | inr f ↦
          let r = count_off_other mark before p rest f in
          let e : count_before (mark_without p.index (first_index rest) mark) (before ++ rest) ≡ count_before mark (before ++ rest) = rw f refl in
          record { pulled = λ h. let i = r.0 h in omega arith; other = λ h. let i = r.1 h in omega arith }
    ]

pub moves_by : (mark left : Option ℕ) (places places' before : List Place) (p : Place) (rest : List Place) (n : ℕ) → IsDistinct (before ++ p ∷ rest) → IsDistinct (before ++ rest)
    → places ≡ before ++ p ∷ rest → places' ≡ before ++ rest → left ≡ mark_without p.index (first_index rest) mark → n ≡ length before
    → Moves n (count_before mark places) (count_before left places')
moves_by mark left places places' before p rest n d d' e f g h = rw (e, f, g, h) (count_off mark before p rest d d')

-- an index comes
pub count_with : (mark : Option ℕ) (xs : List Place) (p : Place) → IfSome mark (IsOn xs) → (IsOn xs p.index → ⊥) → count_before (mark_with p.index mark) (xs ++ p ∷ []) ≡ count_before mark xs
count_with None xs p on off =
    let z : times p.index (indexes xs) ≡ 0 = elim (cases_eq (times p.index (indexes xs)) 0) [ inl e ↦ e | inr ne ↦ absurd (off (omega arith)) ] in
    let a = count_past p.index xs (p ∷ []) z in
    let b = count_here p.index p [] refl in
    let c = count_none xs in
    omega arith
count_with (Some k) xs p on off = count_within k xs (p ∷ []) on

-- the message at the mark
pub read_at : (items : List Msg) (k : ℕ) (xs : List Place) → IsOn xs k → slice_get (messages_at items xs) (count_before (Some k) xs) ≡ Some (get_or items k no_message)
read_at items k [] h = absurd (omega arith)
read_at items k (p ∷ xs) h =
    elim (cases_eq p.index k) [
      | inl e ↦ rw (count_here k p xs e, e) refl
      | inr ne ↦
          let t = times_other k p.index (indexes xs) ne in
          rw (count_there k p xs ne) (read_at items k xs (omega arith))
    ]
