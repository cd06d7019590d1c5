-- What a store keeps where an index leaves its lists and where one comes.
use Rattle.std.proofs.Common.{◌≡◌, ◌≢◌, ◌≤◌, ◌<◌, ◌+◌, ◌-◌, min, max, inl, inr, ℕ, Option, Some, None, List, [], ◌∷◌, ◌++◌, length, arith, refl, sym, ap, ◌∙◌, get_or, subst, length-append}
use Rattle.std.proofs.lemmas.Bool.{cases_eq, eq-eqb, ne_eqb}
use Rattle.std.proofs.lemmas.List.{map-append}
use Rattle.std.proofs.lemmas.List.Edits.{remove-append_right}
use Rattle.std.proofs.lemmas.List.Quantifiers.{all_pairs_push, all_pairs_remove}
use Rattle.std.specs.List.{All, AllByRecursion, remove}
use Rattle.std.specs.Option.{IfSome}
use Rattle.rds_model.specs.declared.entry.Msg.{Msg}
use Rattle.rds_msgs_lists.specs.Lists.{Place, ListsView, IsOn, IsDistinct, first_index, indexes, times, after_push}
use Rattle.rds_msgs.specs.declared.store.TheConstants.{MAX_MESSAGES}
use Rattle.rds_msgs.specs.Messages.{IsAscending}
use Rattle.rds_msgs.specs.Kept.{IsKept, IsListed, HasSlot, mark_without, mark_with, message_at, messages_at, no_message}
use Rattle.rds_msgs.proofs.Places.{if_some, times_first, times_other, times_split, times_off, first_on, distinct_off, all_parts, all_whole}

-- messages in order stay so without one of them
pub ascending_off : (before : List Msg) (m : Msg) (rest : List Msg) → IsAscending (before ++ m ∷ rest) → IsAscending (before ++ rest)
ascending_off before m rest h =
    let n = length-append before (m ∷ rest) in
    let e : remove (before ++ m ∷ rest) (length before) ≡ before ++ rest =
    remove-append_right before (m ∷ rest) (length before) (length before) refl (omega arith)
    ∙ (let z : length before - length before ≡ 0 = omega arith in rw z refl) in
    subst IsAscending e (all_pairs_remove (λ (a b : Msg). a.num < b.num) (before ++ m ∷ rest) (length before) (omega arith) h)

pub times_most : (k x : ℕ) → times k (x ∷ []) ≤ 1
times_most k x = elim (cases_eq x k) [ inl e ↦ let t = eq-eqb x k e in grind arith | inr ne ↦ let t = times_other k x [] ne in omega arith ]

pub on_off : (k : ℕ) (before : List Place) (p : Place) (rest : List Place) → IsOn (before ++ p ∷ rest) k → (p.index ≡ k → ⊥) → IsOn (before ++ rest) k
on_off k before p rest h ne =
    let t = times_off k before p rest in
    let o = times_other k p.index [] ne in
    omega arith

-- the mark stays on the lists
pub marked_off : (mark : Option ℕ) (before : List Place) (p : Place) (rest : List Place) → IfSome mark (IsOn (before ++ p ∷ rest))
    → IfSome (mark_without p.index (first_index rest) mark) (IsOn (before ++ rest))
marked_off None before p rest h = tt
marked_off (Some k) before p rest h =
    elim (cases_eq p.index k) [
      | inl e ↦
          let t = eq-eqb p.index k e in
          rw t (if_some (first_index rest) (IsOn (before ++ rest)) (λ j f. let a = first_on rest j f in let b = times_split j before rest in omega arith))
      | inr ne ↦ let t = ne_eqb p.index k ne in rw t (on_off k before p rest h ne)
    ]

pub kept_off : (lists : ListsView) (items : List Msg) (mark : Option ℕ) (slots : ℕ) (before : List Place) (p : Place) (rest : List Place)
    → IsKept lists items mark slots → lists.places ≡ before ++ p ∷ rest
    → IsKept (record lists { places = before ++ rest }) items (mark_without p.index (first_index rest) mark) slots
kept_off lists items mark slots before p rest h e =
    let d : IsDistinct (before ++ p ∷ rest) = subst IsDistinct e h.distinct in
    let a : IsAscending (messages_at items before ++ message_at items p ∷ messages_at items rest) =
    subst IsAscending (ap (messages_at items) e ∙ map-append (message_at items) before (p ∷ rest)) h.ascending in
    let l = all_parts (IsListed items slots) before (p ∷ rest) (subst (AllByRecursion (IsListed items slots)) e h.listed) in
    let n = ap (λ (ps : List Place). length ps) e ∙ length-append before (p ∷ rest) in
    let m = length-append before rest in
    record {
      ascending = subst IsAscending (sym (map-append (message_at items) before rest)) (ascending_off _ _ _ a);
      marked = marked_off mark before p rest (subst (λ (ps : List Place). IfSome mark (IsOn ps)) e h.marked);
      distinct = distinct_off before p rest d;
      within = λ k i.
          let t = times_off k before p rest in
          let o : IsOn (before ++ p ∷ rest) k = omega arith in
          h.within k (subst (λ (ps : List Place). IsOn ps k) (sym e) o);
      few = let few = h.few in omega arith;
      held = h.held;
      sockets = h.sockets;
      listed = all_whole (IsListed items slots) before rest l.0 l.1.1;
    }

-- a write at an index that is on no list changes no message of a place
module _ (items items' : List Msg) where
  pub messages_same : (xs : List Place) → ((k : ℕ) → IsOn xs k → get_or items' k no_message ≡ get_or items k no_message) → messages_at items' xs ≡ messages_at items xs
  messages_same [] h = refl
  messages_same (p ∷ xs) h =
      let e = h p.index (let t = times_first p.index (indexes xs) in omega arith) in
      let r = messages_same xs (λ k i. h k (omega arith)) in
      rw (e, r) refl

  pub listed_same : (slots : ℕ) (xs : List Place) → ((k : ℕ) → IsOn xs k → get_or items' k no_message ≡ get_or items k no_message) → AllByRecursion (IsListed items slots) xs → AllByRecursion (IsListed items' slots) xs
  listed_same slots [] h l = tt
  listed_same slots (p ∷ xs) h l =
      let e = h p.index (let t = times_first p.index (indexes xs) in omega arith) in
      (subst (λ (m : Msg). (p.socket ≡ min m.slot slots) × HasSlot slots m.slot) (sym e) l.0, listed_same slots xs (λ k i. h k (omega arith)) l.1)

-- where an index comes to the end
abbrev pub place_of : ℕ → ℕ → Place
place_of k socket = record { index = k; socket = socket }

pub marked_with : (mark : Option ℕ) (xs : List Place) (p : Place) → IfSome mark (IsOn xs) → IfSome (mark_with p.index mark) (IsOn (xs ++ p ∷ []))
marked_with None xs p h = let t = times_split p.index xs (p ∷ []) in let f = times_first p.index [] in omega arith
marked_with (Some k) xs p h = let t = times_split k xs (p ∷ []) in omega arith

pub distinct_with : (xs : List Place) (p : Place) → IsDistinct xs → (IsOn xs p.index → ⊥) → IsDistinct (xs ++ p ∷ [])
distinct_with xs p d off k =
    let t = times_split k xs (p ∷ []) in
    let a = d k in
    elim (cases_eq p.index k) [
      | inl e ↦
          let z : IsOn xs k → ⊥ = subst (λ (j : ℕ). IsOn xs j → ⊥) e off in
          elim (cases_eq (times k (indexes xs)) 0) [ inl n ↦ let o = times_most k p.index in omega arith | inr ne ↦ absurd (z (omega arith)) ]
      | inr ne ↦ let o = times_other k p.index [] ne in omega arith
    ]

-- What the write of a message that comes makes of the messages by index.
pub record Written (items items' : List Msg) (k : ℕ) (m : Msg) : Type 0 where
  pub here : get_or items' k no_message ≡ m
  pub others : (j : ℕ) → j ≢ k → j < length items → get_or items' j no_message ≡ get_or items j no_message
  pub len : length items' ≡ max (length items) (k + 1)

-- A message comes, at an index that is on no list.
module _ (lists : ListsView) (items items' : List Msg) (mark : Option ℕ) (slots k : ℕ) (m : Msg) (h : IsKept lists items mark slots) (off : IsOn lists.places k → ⊥) (w : Written items items' k m) where
  others_same : (j : ℕ) → IsOn lists.places j → get_or items' j no_message ≡ get_or items j no_message
  others_same j i = w.others j (λ e. off (subst (IsOn lists.places) e i)) (h.within j i)

  pub messages_with : messages_at items' (lists.places ++ place_of k (min m.slot slots) ∷ []) ≡ messages_at items lists.places ++ m ∷ []
  messages_with =
      map-append (message_at items') lists.places (place_of k (min m.slot slots) ∷ [])
      ∙ rw (messages_same items items' lists.places others_same, w.here) refl

  pub kept_with : HasSlot slots m.slot → length lists.places < MAX_MESSAGES → All (λ (a : Msg). a.num < m.num) (messages_at items lists.places)
      → IsKept (after_push k (min m.slot slots) lists) items' (mark_with k mark) slots
  kept_with own few above =
      record {
        ascending = subst IsAscending (sym messages_with) (all_pairs_push (λ (a b : Msg). a.num < b.num) (messages_at items lists.places) m h.ascending above);
        marked = marked_with mark lists.places (place_of k (min m.slot slots)) h.marked;
        distinct = distinct_with lists.places (place_of k (min m.slot slots)) h.distinct off;
        within = λ j i.
            let t = times_split j lists.places (place_of k (min m.slot slots) ∷ []) in
            let n = w.len in
            elim (cases_eq k j) [
              | inl e ↦ omega arith
              | inr ne ↦
                  let o = times_other j k [] ne in
                  let b = h.within j (omega arith) in
                  omega arith
            ];
        few = let n = length-append lists.places (place_of k (min m.slot slots) ∷ []) in omega arith;
        held = let a = w.len in let b = h.held in omega arith;
        sockets = h.sockets;
        listed = all_whole (IsListed items' slots) lists.places _ (listed_same items items' slots lists.places others_same h.listed)
            (subst (λ (n : Msg). (min m.slot slots ≡ min n.slot slots) × HasSlot slots n.slot) (sym w.here) (refl, own), tt);
      }
