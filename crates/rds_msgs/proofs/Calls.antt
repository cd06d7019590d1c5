-- What the calls on a store make of what contracts see.
use Rattle.std.proofs.Common.{◌≡◌, ◌≤◌, ◌<◌, ◌+◌, ◌-◌, min, not, ℕ, zero, suc, true, false, Option, Some, None, List, [], ◌∷◌, ◌++◌, length, arith, refl, sym, ap, ◌∙◌, subst, get_or, slice_get, slice_index_or, Bool, IsTrue, ◌↔◌}
use Rattle.std.proofs.lemmas.Bool.{ne_eqb}
use Rattle.std.proofs.lemmas.Option.{same_Some, none-some}
use Rattle.std.proofs.lemmas.List.{length-map, length-append, length-take-le, append_assoc}
use Rattle.std.specs.List.{AllByRecursion}
use Rattle.std.specs.Option.{is_some}
use Rattle.rds_model.specs.declared.entry.Msg.{Msg}
use Rattle.rds_model.specs.declared.entry.Target.{Target}
use Rattle.rds_msgs_lists.specs.Lists.{Place, ListsView, AtEach, IsOn, IsDistinct, first_index, after_push}
use Rattle.rds_msgs.specs.Messages.{after_cancel, covered_messages, without_first}
use Rattle.rds_msgs.specs.Kept.{IsKept, IsListed, HasSlot, count_before, mark_with, mark_without, message_at, messages_at, no_message, seen}
use Rattle.rds_msgs.proofs.Places.{not_true, HasPlace, has_place, distinct_off}
use Rattle.rds_msgs.proofs.Counts.{count_none, count_most, count_at, count_first, count_with, moves_by, Moves}
use Rattle.rds_msgs.proofs.Keeping.{Written, kept_off, messages_with}
use Rattle.rds_msgs.proofs.Withdrawing.{AreLeft, all_left, none_taken, left_front}

pub pulled_most : (items : List Msg) (mark : Option ℕ) (places : List Place) → count_before mark places ≤ length (messages_at items places)
pulled_most items mark places = omega (arith, count_most mark places, length-map places (message_at items))

-- all are pulled
pub none_last : (items : List Msg) (mark : Option ℕ) (places : List Place) → mark ≡ None → count_before mark places + 1 ≡ length (messages_at items places) → ⊥
none_last items mark places e h =
    let n : count_before mark places ≡ length places = rw e (count_none places) in
    absurd (omega (arith, length-map places (message_at items)))

pub all_pulled : (items : List Msg) (mark : Option ℕ) (places : List Place) → mark ≡ None → count_before mark places < length (messages_at items places) → ⊥
all_pulled items mark places e h =
    let n : count_before mark places ≡ length places = rw e (count_none places) in
    absurd (omega (arith, length-map places (message_at items)))

pub is_none_decides : (o : Option ℕ) (r : Bool) → is_some o ≡ not r → IsTrue r ↔ (o ≡ None)
is_none_decides None true e = ((λ t. refl), (λ t. refl))
is_none_decides None false e = absurd (not_true e)
is_none_decides (Some k) true e = absurd (not_true (sym e))
is_none_decides (Some k) false e = ((λ t. absurd (not_true t)), (λ t. absurd (none-some k (sym t))))

pub read_none : (items : List Msg) (places : List Place) → slice_get (messages_at items places) (count_before None places) ≡ None
read_none items [] = refl
read_none items (p ∷ places) = read_none items places

none_behind : (rest : List Place) → first_index rest ≡ None → length rest ≡ 0
none_behind [] i = refl
none_behind (p ∷ rest) i = absurd (none-some p.index (sym i))

nothing_behind : (rest : List Place) → length rest ≡ 0 → first_index rest ≡ None
nothing_behind [] i = refl
nothing_behind (p ∷ rest) i = absurd (omega arith)

-- Behind the mark, which is at an index, stands `next`.
module _ (items : List Msg) (places : List Place) (k : ℕ) (next : Option ℕ) (d : IsDistinct places) (on : IsOn places k) (after : AtEach places k (λ before p rest. next ≡ first_index rest)) where
  at_mark : HasPlace places k
  at_mark = has_place places k on

  marked_here : count_before (Some k) places ≡ length (at_mark).before
  marked_here =
      let h = at_mark in
      ap (λ (ps : List Place). count_before (Some k) ps) h.whole
      ∙ (ap (λ (j : ℕ). count_before (Some j) (h.before ++ h.place ∷ h.rest)) (sym h.its) ∙ count_at h.before h.place h.rest (subst IsDistinct h.whole d))

  length_here : length places ≡ length (at_mark).before + 1 + length (at_mark).rest
  length_here =
      let h = at_mark in
      let n = ap (λ (ps : List Place). length ps) h.whole ∙ length-append h.before (h.place ∷ h.rest) in
      omega arith

  pub last_is : (next ≡ None → count_before (Some k) places + 1 ≡ length (messages_at items places)) × (count_before (Some k) places + 1 ≡ length (messages_at items places) → next ≡ None)
  last_is =
      let h = at_mark in
      let e = after h.before h.place h.rest h.whole h.its in
      let m = marked_here in
      let n = length_here in
      let l = length-map places (message_at items) in
      ((λ i. let z = none_behind h.rest (sym e ∙ i) in omega arith), (λ i. e ∙ nothing_behind h.rest (omega arith)))

  pub mark_next : count_before next places ≡ count_before (Some k) places + 1
  mark_next =
      let h = at_mark in
      let e = after h.before h.place h.rest h.whole h.its in
      let whole : places ≡ (h.before ++ h.place ∷ []) ++ h.rest = h.whole ∙ sym (append_assoc h.before (h.place ∷ []) h.rest) in
      let c = count_first (h.before ++ h.place ∷ []) h.rest (subst IsDistinct whole d) in
      let f : count_before next places ≡ length (h.before ++ h.place ∷ []) =
      ap (λ (ps : List Place). count_before next ps) whole ∙ (ap (λ (o : Option ℕ). count_before o ((h.before ++ h.place ∷ []) ++ h.rest)) e ∙ c) in
      let n = length-append h.before (h.place ∷ []) in
      let m = marked_here in
      omega arith

-- a message comes
module _ (lists : ListsView) (items items' : List Msg) (mark : Option ℕ) (slots k : ℕ) (m : Msg) (h : IsKept lists items mark slots) (off : IsOn lists.places k → ⊥) (w : Written items items' k m) where
  pub appended : seen (after_push k (min m.slot slots) lists) items' (mark_with k mark) slots
      ≡ record { messages = messages_at items lists.places ++ m ∷ []; mark = count_before mark lists.places; spare = lists.spare - 1; slots = slots }
  appended =
      rw (messages_with lists items items' mark slots k m h off w, count_with mark lists.places (record { index = k; socket = min m.slot slots }) h.marked off) refl

-- The first message leaves.
pub record Front (items : List Msg) (places : List Place) (k : ℕ) : Type 0 where
  pub place : Place
  pub rest : List Place
  pub whole : places ≡ place ∷ rest
  pub its : place.index ≡ k

pub front : (items : List Msg) (places : List Place) (k : ℕ) → Some k ≡ first_index places → Front items places k
front items [] k e = absurd (none-some k (sym e))
front items (p ∷ places) k e = record { place = p; rest = places; whole = refl; its = sym (same_Some k p.index e) }

pub first_read : (items : List Msg) (places : List Place) (k : ℕ) (m : Msg) → Some k ≡ first_index places → m ≡ get_or items k no_message → m ≡ slice_index_or (messages_at items places) 0 m
first_read items [] k m e is = absurd (none-some k (sym e))
first_read items (p ∷ places) k m e is = is ∙ ap (λ (j : ℕ). get_or items j no_message) (same_Some k p.index e)

pub record Popped (lists : ListsView) (items : List Msg) (mark : Option ℕ) (slots : ℕ) (m : Msg) (then' : ListsView) (left : Option ℕ) : Type 0 where
  pub kept : IsKept then' items left slots
  pub whole : messages_at items lists.places ≡ m ∷ messages_at items then'.places
  pub view : seen then' items left slots ≡ without_first (seen lists items mark slots)
  pub fewer : length then'.places ≤ length lists.places
  pub spare : then'.spare ≡ lists.spare

less : (n m : ℕ) → Moves 0 n m → m ≡ n - 1
less zero m h = let e = h.other (omega arith) in omega arith
less (suc n) m h = let e = h.pulled (omega arith) in omega arith

pub popped : (lists : ListsView) (items : List Msg) (mark : Option ℕ) (slots k : ℕ) (m : Msg) (then' : ListsView) (left : Option ℕ) → IsKept lists items mark slots
    → Some k ≡ first_index lists.places → m ≡ get_or items k no_message
    → AtEach lists.places k (λ before p rest. then' ≡ record lists { places = before ++ rest })
    → AtEach lists.places k (λ before p rest. left ≡ mark_without k (first_index rest) mark)
    → Popped lists items mark slots m then' left
popped lists items mark slots k m then' left h e is removed moved =
    let f = front items lists.places k e in
    let r : then' ≡ record lists { places = f.rest } = removed [] f.place f.rest f.whole f.its in
    let p : then'.places ≡ f.rest = ap (λ (u : ListsView). u.places) r in
    let v : left ≡ mark_without f.place.index (first_index f.rest) mark = moved [] f.place f.rest f.whole f.its ∙ ap (λ (j : ℕ). mark_without j (first_index f.rest) mark) (sym f.its) in
    let d : IsDistinct ([] ++ f.place ∷ f.rest) = subst IsDistinct f.whole h.distinct in
    let moves = moves_by mark left lists.places then'.places [] f.place f.rest 0 d (distinct_off [] f.place f.rest d) f.whole p v refl in
    let i : message_at items f.place ≡ m = ap (λ (j : ℕ). get_or items j no_message) f.its ∙ sym is in
    let whole : messages_at items lists.places ≡ m ∷ messages_at items then'.places =
    ap (messages_at items) f.whole ∙ (ap (λ (j : Msg). j ∷ messages_at items f.rest) i ∙ ap (λ (ps : List Place). m ∷ messages_at items ps) (sym p)) in
    let n = ap (λ (ps : List Place). length ps) f.whole in
    let o = ap (λ (ps : List Place). length ps) p in
    let count : count_before left then'.places ≡ count_before mark lists.places - 1 = less (count_before mark lists.places) (count_before left then'.places) moves in
    record {
      kept = rw (r, v) (kept_off lists items mark slots [] f.place f.rest h f.whole);
      whole = whole;
      view = rw (whole, count, ap (λ (u : ListsView). u.spare) r) refl;
      fewer = omega arith;
      spare = ap (λ (u : ListsView). u.spare) r;
    }

-- a slot that can have no message has none
pub record Untouched (slot : ℕ) (target : Target) (lists : ListsView) (items : List Msg) (mark : Option ℕ) (slots : ℕ) : Type 0 where
  pub none : covered_messages slot target (messages_at items lists.places) ≡ []
  pub same : seen lists items mark slots ≡ after_cancel slot target (seen lists items mark slots)

others_left : (slot : ℕ) (target : Target) (slots : ℕ) (items : List Msg) (places : List Place) → (HasSlot slots slot → ⊥) → AllByRecursion (IsListed items slots) places → AreLeft slot target (messages_at items places)
others_left slot target slots items [] h l = tt
others_left slot target slots items (p ∷ places) h l =
    (let t = ne_eqb slot (message_at items p).slot (λ e. h (subst (HasSlot slots) (sym e) l.0.1)) in rw t refl, others_left slot target slots items places h l.1)

pub untouched : (slot : ℕ) (target : Target) (lists : ListsView) (items : List Msg) (mark : Option ℕ) (slots : ℕ) → IsKept lists items mark slots → (HasSlot slots slot → ⊥) → Untouched slot target lists items mark slots
untouched slot target lists items mark slots h no' =
    let a = others_left slot target slots items lists.places no' h.listed in
    let b = all_left slot target _ (left_front slot target (count_before mark lists.places) (messages_at items lists.places) a) in
    let n = length-take-le (count_before mark lists.places) (messages_at items lists.places) (pulled_most items mark lists.places) in
    record { none = none_taken slot target _ a; same = rw (all_left slot target _ a, b, n) refl }
