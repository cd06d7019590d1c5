-- A walk along the list of a slot that changes nothing.
use Rattle.std.proofs.Common.{◌≡◌, ◌≤◌, ◌<◌, ◌+◌, min, ℕ, true, false, Option, Some, None, List, [], ◌∷◌, ◌++◌, length, arith, refl, sym, ap, ◌∙◌, subst, get_or, cond, Bool}
use Rattle.std.proofs.lemmas.List.{append_assoc, map-append, append-nil, length-append}
use Rattle.std.proofs.lemmas.List.Elements.{filter-append}
use Rattle.std.specs.List.{AllByRecursion}
use Rattle.std.specs.Option.{IfSome}
use Rattle.rds_model.specs.declared.entry.Msg.{Msg}
use Rattle.rds_model.specs.declared.entry.Target.{Target}
use Rattle.rds_model.specs.declared.entry.TheConstants.{NO_SLOT}
use Rattle.rds_model.specs.Alive.{aims_at}
use Rattle.rds_msgs_lists.specs.Lists.{Place, AtEach, IsOn, IsDistinct, first_index, indexes, of_socket, times}
use Rattle.rds_msgs.specs.Messages.{covers_message, covered_messages, message_numbers}
use Rattle.rds_msgs.specs.Kept.{IsListed, HasSlot, count_before, message_at, messages_at, no_message}
use Rattle.rds_msgs.proofs.Places.{first_of_is, none_of, all_parts, has_place, first_on, own_times, times_split, times_first}
use Rattle.rds_msgs.proofs.Counts.{count_none, count_at, count_past, count_there}
use Rattle.rds_msgs.proofs.Withdrawing.{none_taken, between_left, covers_own}

-- the next index of a socket stands behind this one
pub behind : (socket : ℕ) (before : List Place) (p : Place) (rest : List Place) → IsDistinct (before ++ p ∷ rest)
    → (next : Option ℕ) → next ≡ first_index (of_socket socket rest) → length before < count_before next (before ++ p ∷ rest)
behind socket before p rest d None e = let n = count_none (before ++ p ∷ rest) in let m = length-append before (p ∷ rest) in omega arith
behind socket before p rest d (Some k) e =
    let i = first_on (of_socket socket rest) k (sym e) in
    let o = own_times socket k rest in
    let all = d k in
    let t = times_split k before (p ∷ rest) in
    let z : times k (indexes before) ≡ 0 = omega arith in
    let c = count_past k before (p ∷ rest) z in
    let ne : p.index ≡ k → ⊥ = λ s. let f : times k (p.index ∷ indexes rest) ≡ 1 + times k (indexes rest) = rw s (times_first k (indexes rest)) in absurd (omega arith) in
    let h = count_there k p rest ne in
    omega arith

pub further : (at : ℕ) (next : Option ℕ) (places : List Place) → IsDistinct places → IsOn places at
    → AtEach places at (λ before p rest. next ≡ first_index (of_socket p.socket rest))
    → (count_before (Some at) places < count_before next places) × (count_before (Some at) places < length places)
further at next places d on after =
    let h = has_place places at on in
    let d' : IsDistinct (h.before ++ h.place ∷ h.rest) = subst IsDistinct h.whole d in
    let e = count_at h.before h.place h.rest d' in
    let here : count_before (Some at) places ≡ length h.before =
    ap (λ (ps : List Place). count_before (Some at) ps) h.whole ∙ (ap (λ (k : ℕ). count_before (Some k) (h.before ++ h.place ∷ h.rest)) (sym h.its) ∙ e) in
    let n = ap (λ (ps : List Place). length ps) h.whole ∙ length-append h.before (h.place ∷ h.rest) in
    let b = behind h.place.socket h.before h.place h.rest d' next (after h.before h.place h.rest h.whole h.its) in
    let c = ap (λ (ps : List Place). count_before next ps) h.whole in
    (omega arith, omega arith)

module _ (items : List Msg) (slots slot : ℕ) (target : Target) (places : List Place) (begun : List ℕ) where
  -- The walk is at `next`: of the places those up to it are passed, and the numbers of what the target covers are there.
  pub record Visits (next : Option ℕ) (numbers : List ℕ) : Type 0 where
    pub done : List Place
    pub todo : List Place
    pub whole : places ≡ done ++ todo
    pub next_is : next ≡ first_index (of_socket (min slot slots) todo)
    pub on : IfSome next (IsOn places)
    pub found : numbers ≡ begun ++ message_numbers (covered_messages slot target (messages_at items done))

  pub visits_first : (next : Option ℕ) → next ≡ first_index (of_socket (min slot slots) places) → IfSome next (IsOn places) → Visits next begun
  visits_first next e on =
      record { done = []; todo = places; whole = refl; next_is = e; on = on; found = sym (append-nil begun) }

  -- the numbers of what a cancellation takes of one message
  abbrev pub number_of : Msg → List ℕ
  number_of m = message_numbers (covered_messages slot target (m ∷ []))

  module _ (most : slots ≤ NO_SLOT) (has : HasSlot slots slot) (listed : AllByRecursion (IsListed items slots) places) where
    pub visits_next : (at : ℕ) (next : Option ℕ) (m : Msg) (numbers after' : List ℕ) → Visits (Some at) numbers → m ≡ get_or items at no_message
        → AtEach places at (λ before p rest. next ≡ first_index (of_socket p.socket rest)) → IfSome next (IsOn places)
        → (covers_message slot target m ≡ aims_at target m.dport → after' ≡ numbers ++ number_of m)
        → Visits next after'
    visits_next at next m numbers after' v e after on found =
        let f = first_of_is (min slot slots) v.todo at v.next_is in
        let l = all_parts (IsListed items slots) v.done v.todo (subst (AllByRecursion (IsListed items slots)) v.whole listed) in
        let n = all_parts (IsListed items slots) f.before (f.place ∷ f.rest) (subst (AllByRecursion (IsListed items slots)) f.whole l.1) in
        let whole : places ≡ (v.done ++ f.before) ++ f.place ∷ f.rest =
        v.whole ∙ (ap (λ (ps : List Place). v.done ++ ps) f.whole ∙ sym (append_assoc v.done f.before (f.place ∷ f.rest))) in
        let i : message_at items f.place ≡ m = ap (λ (k : ℕ). get_or items k no_message) f.its ∙ sym e in
        let c : covers_message slot target m ≡ aims_at target m.dport =
        subst (λ (j : Msg). covers_message slot target j ≡ aims_at target j.dport) i (covers_own items slots slot most has target f.place n.1.0 f.owner) in
        let none : covered_messages slot target (messages_at items f.before) ≡ [] = none_taken slot target _ (between_left items slots slot most has target f.before n.0 f.none) in
        let ms : messages_at items ((v.done ++ f.before) ++ f.place ∷ []) ≡ (messages_at items v.done ++ messages_at items f.before) ++ m ∷ [] =
        map-append (message_at items) (v.done ++ f.before) (f.place ∷ [])
        ∙ (ap (λ (xs : List Msg). xs ++ message_at items f.place ∷ []) (map-append (message_at items) v.done f.before) ∙ ap (λ (j : Msg). (messages_at items v.done ++ messages_at items f.before) ++ j ∷ []) i) in
        let cs : covered_messages slot target (messages_at items ((v.done ++ f.before) ++ f.place ∷ [])) ≡ covered_messages slot target (messages_at items v.done) ++ covered_messages slot target (m ∷ []) =
        ap (covered_messages slot target) ms
        ∙ (filter-append (covers_message slot target) (messages_at items v.done ++ messages_at items f.before) (m ∷ [])
        ∙ (ap (λ (xs : List Msg). xs ++ covered_messages slot target (m ∷ [])) (filter-append (covers_message slot target) (messages_at items v.done) (messages_at items f.before))
        ∙ (ap (λ (xs : List Msg). (covered_messages slot target (messages_at items v.done) ++ xs) ++ covered_messages slot target (m ∷ [])) none
        ∙ ap (λ (xs : List Msg). xs ++ covered_messages slot target (m ∷ [])) (append-nil (covered_messages slot target (messages_at items v.done)))))) in
        record {
          done = (v.done ++ f.before) ++ f.place ∷ [];
          todo = f.rest;
          whole = whole ∙ sym (append_assoc (v.done ++ f.before) (f.place ∷ []) f.rest);
          next_is = after (v.done ++ f.before) f.place f.rest whole f.its ∙ ap (λ (j : ℕ). first_index (of_socket j f.rest)) f.owner;
          on = on;
          found = found c
              ∙ (ap (λ (xs : List ℕ). xs ++ number_of m) v.found
              ∙ (append_assoc begun (message_numbers (covered_messages slot target (messages_at items v.done))) (number_of m)
              ∙ ap (λ (xs : List ℕ). begun ++ xs) (sym (ap message_numbers cs ∙ map-append (λ (j : Msg). j.num) (covered_messages slot target (messages_at items v.done)) (covered_messages slot target (m ∷ []))))));
        }

    pub visits_end : (numbers : List ℕ) → Visits None numbers → numbers ≡ begun ++ message_numbers (covered_messages slot target (messages_at items places))
    visits_end numbers v =
        let none : of_socket (min slot slots) v.todo ≡ [] = none_of (of_socket (min slot slots) v.todo) v.next_is in
        let l = all_parts (IsListed items slots) v.done v.todo (subst (AllByRecursion (IsListed items slots)) v.whole listed) in
        let rest = none_taken slot target _ (between_left items slots slot most has target v.todo l.1 none) in
        let cs : covered_messages slot target (messages_at items places) ≡ covered_messages slot target (messages_at items v.done) =
        ap (λ (ps : List Place). covered_messages slot target (messages_at items ps)) v.whole
        ∙ (ap (covered_messages slot target) (map-append (message_at items) v.done v.todo)
        ∙ (filter-append (covers_message slot target) (messages_at items v.done) (messages_at items v.todo)
        ∙ (ap (λ (xs : List Msg). covered_messages slot target (messages_at items v.done) ++ xs) rest
        ∙ append-nil (covered_messages slot target (messages_at items v.done))))) in
        v.found ∙ ap (λ (xs : List Msg). begun ++ message_numbers xs) (sym cs)

  -- the number of a message, where a cancellation takes it
  pub number_is : (m : Msg) (taken : Bool) → covers_message slot target m ≡ taken → cond taken (m.num ∷ []) [] ≡ number_of m
  number_is m true e = rw e refl
  number_is m false e = rw e refl
