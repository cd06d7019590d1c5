-- What is left of slots, one after another.
use Rattle.std.proofs.Common.{◌≡◌, ◌⊎◌, ℕ, zero, suc, ◌+◌, ◌<◌, ◌≤◌, List, [], ◌∷◌, ◌++◌, All, length, map, take, set, get_or, Option, Some, None, slice_get, inl, inr, refl, sym, ap, subst, ◌∙◌, ⊎_elim, arith}
use Rattle.std.specs.Option.{option_to_list}
use Rattle.std.proofs.lemmas.Option.{same_Some, slice_get_within}
use Rattle.std.proofs.lemmas.List.{append-nil, length_push, length-set, map_push, map-append}
use Rattle.std.proofs.Math.Seq.{take-length}
use Rattle.std.proofs.lemmas.List.Elements.{All-push}
use Rattle.rds_fmap.specs.Readers.{ReaderView}
use Rattle.rds_socket_parts.specs.Lanes.{Ascend}
use Rattle.rds_socket_parts.specs.PlaceLaws.{there}
use Rattle.rds_text.specs.declared.final_state.Kept.{Kept}
use Rattle.rds_socket.specs.Holding.{Holding}
use Rattle.rds_run_callers.specs.Places.{Place, Vacant, Bound, Ended, Spare, holding_of, somes}
use Rattle.rds_run_callers.specs.Ends.{IsEndOf, AreEndsOf, AreLeft, IsLeft, HasLeft, HasItsPort, HaveTheirPorts, used_name, kept_name}
use Rattle.rds_run_callers.specs.States.{shown_all, AreSlots}
use Rattle.rds_run_callers.specs.declared.state.State.{State}
use Rattle.rds_run_callers.proofs.Seen.{count_seen}

-- the ends of all slots before this one, and what their sockets had; the slots from this one on are still there
pub record Leaves (states now : List State) (slot : ℕ) (kept : List Kept) (closed : List (Holding ReaderView)) : Type 0 where
  pub rest : (other : ℕ) (x : State) → slot ≤ other → slice_get states other ≡ Some x → slice_get now other ≡ Some x
  pub size : length now ≡ length states
  pub count : length closed ≡ slot
  pub ends : (other : ℕ) (p : Place) (h : Holding ReaderView) → slice_get (shown_all states) other ≡ Some p → slice_get closed other ≡ Some h → IsEndOf (holding_of p) h
  pub names : map kept_name kept ≡ somes (map used_name (take slot (shown_all states)))
  pub ascend : Ascend (map (λ k. k.slot) kept)
  pub below : All (λ s. s < slot) (map (λ k. k.slot) kept)
  pub each : All (IsLeft (shown_all states) closed) kept
  pub ports : HaveTheirPorts (shown_all states) closed

pub leaves_none : (states : List State) → Leaves states states 0 [] []
leaves_none states = record {
  rest = λ other x le at. at;
  size = refl;
  count = refl;
  ends = λ other p h stood at. absurd (let small = slice_get_within [] other h at in omega arith);
  names = refl;
  ascend = tt;
  below = λ k d small. absurd (omega arith);
  each = λ k d small. absurd (omega arith);
  ports = λ other p h stood at. absurd (let small = slice_get_within [] other h at in omega arith);
}

module _ {A : Type 0} where
  take_more : (l : List A) (n : ℕ) (x : A) → slice_get l n ≡ Some x → take (n + 1) l ≡ take n l ++ x ∷ []
  take_more [] n x at = absurd (let small = slice_get_within [] n x at in omega arith)
  take_more (y ∷ l) zero x at = ap (λ z. z ∷ []) (same_Some y x at)
  take_more (y ∷ l) (suc n) x at =
      let next : suc n + 1 ≡ suc (n + 1) = omega arith in
      ap (λ k. take k (y ∷ l)) next ∙ ap (λ r. y ∷ r) (take_more l n x at)

  -- what stood before one more stands still
  kept_place : (l : List A) (x y : A) (n : ℕ) → slice_get l n ≡ Some y → slice_get (l ++ x ∷ []) n ≡ Some y
  kept_place [] x y n at = absurd (let small = slice_get_within [] n y at in omega arith)
  kept_place (z ∷ l) x y zero at = at
  kept_place (z ∷ l) x y (suc n) at = kept_place l x y n at

  last_place : (l : List A) (x : A) → slice_get (l ++ x ∷ []) (length l) ≡ Some x
  last_place [] x = refl
  last_place (z ∷ l) x = last_place l x

  -- what stands once one more was put at the end
  split_place : (l : List A) (x y : A) (n : ℕ) → slice_get (l ++ x ∷ []) n ≡ Some y → (slice_get l n ≡ Some y) ⊎ ((n ≡ length l) × (x ≡ y))
  split_place [] x y zero at = inr (refl, same_Some x y at)
  split_place [] x y (suc n) at = absurd (let small = slice_get_within (x ∷ []) (suc n) y at in omega arith)
  split_place (z ∷ l) x y zero at = inl at
  split_place (z ∷ l) x y (suc n) at = ⊎_elim (λ (t : slice_get l n ≡ Some y). inl t) (λ (t : (n ≡ length l) × (x ≡ y)). inr (ap suc t.0, t.1)) (split_place l x y n at)

  all_weaker : (P Q : A → Type 0) → ((x : A) → P x → Q x) → (l : List A) → All P l → All Q l
  all_weaker P Q f l a = λ k d small. f (get_or l k d) (a k d small)

somes_push : {A : Type 0} (l : List (Option A)) (o : Option A) → somes (l ++ o ∷ []) ≡ somes l ++ option_to_list o
somes_push [] (Some x) = refl
somes_push [] None = refl
somes_push (Some y ∷ l) o = ap (λ r. y ∷ r) (somes_push l o)
somes_push (None ∷ l) o = somes_push l o

ascend_push : (l : List ℕ) (x : ℕ) → Ascend l → All (λ y. y < x) l → Ascend (l ++ x ∷ [])
ascend_push [] x a below = (λ k d small. absurd (omega arith), tt)
ascend_push (y ∷ l) x a below = (All-push (λ later. y < later) l x a.0 (below 0 y (omega arith)), ascend_push l x a.1 (λ k d small. below (suc k) d (omega arith)))

-- what is kept has the slot of its place
slot_of_name : (p : Place) (k : Kept) → used_name p ≡ Some (kept_name k) → k.slot ≡ (holding_of p).words.slot
slot_of_name (Vacant h) k e = absurd (cc)
slot_of_name (Bound o got) k e = ap (λ (n : ℕ × ℕ). n.0) (sym (same_Some (o.own.words.slot, o.port) (kept_name k) e))
slot_of_name (Ended port h got) k e = ap (λ (n : ℕ × ℕ). n.0) (sym (same_Some (h.words.slot, port) (kept_name k) e))
slot_of_name (Spare h) k e = absurd (cc)

named : (p : Place) (h : Holding ReaderView) (o : Option Kept) → HasLeft p h o → map kept_name (option_to_list o) ≡ option_to_list (used_name p)
named p h (Some k) left = sym (ap option_to_list left.1)
named p h None left = sym (ap option_to_list left)

-- one more is left, whose socket has this
still_left : (places : List Place) (closed : List (Holding ReaderView)) (h : Holding ReaderView) (k : Kept) → IsLeft places closed k → IsLeft places (closed ++ h ∷ []) k
still_left places closed h k l = (l.0, l.1, l.2, kept_place closed h l.1 k.slot l.3, l.4)

pub leaves_more : (states now : List State) (slot : ℕ) (x y : State) (kept : List Kept) (closed : List (Holding ReaderView)) (h : Holding ReaderView) (o : Option Kept) → AreSlots states
    → Leaves states now slot kept closed → (p : Place) → slice_get (shown_all states) slot ≡ Some p → IsEndOf (holding_of p) h → HasLeft p h o → HasItsPort p h
    → Leaves states (set now slot y) (slot + 1) (kept ++ option_to_list o) (closed ++ h ∷ [])
leaves_more states now slot x y kept closed h o sound l p at end left claimed = record {
  rest = λ other z le stood. there now slot other y (λ e. absurd (omega arith)) ∙ l.rest other z (omega arith) stood;
  size = length-set now slot y ∙ l.size;
  count = length_push closed h ∙ ap (λ n. n + 1) l.count;
  ends = λ other q k stood found. ⊎_elim
      (λ (t : slice_get closed other ≡ Some k). l.ends other q k stood t)
      (λ (t : (other ≡ length closed) × (h ≡ k)).
      let same : p ≡ q = same_Some p q (sym at ∙ (ap (λ i. slice_get (shown_all states) i) (sym l.count ∙ sym t.0) ∙ stood)) in
      subst (λ (z : Holding ReaderView). IsEndOf (holding_of q) z) t.1 (subst (λ (z : Place). IsEndOf (holding_of z) h) same end))
      (split_place closed h k other found);
  names = map-append kept_name kept (option_to_list o) ∙ ((λ i. l.names i ++ named p h o left i)
      ∙ (sym (somes_push (map used_name (take slot (shown_all states))) (used_name p)) ∙ ap somes (sym (map_push used_name (take slot (shown_all states)) p) ∙ ap (map used_name) (sym (take_more (shown_all states) slot p at)))));
  ascend = rising o left;
  below = lower o left;
  each = every o left;
  ports = λ other q k stood found. ⊎_elim
      (λ (t : slice_get closed other ≡ Some k). l.ports other q k stood t)
      (λ (t : (other ≡ length closed) × (h ≡ k)).
      let same : p ≡ q = same_Some p q (sym at ∙ (ap (λ i. slice_get (shown_all states) i) (sym l.count ∙ sym t.0) ∙ stood)) in
      subst (λ (z : Holding ReaderView). HasItsPort q z) t.1 (subst (λ (z : Place). HasItsPort z h) same claimed))
      (split_place closed h k other found);
}
  where
    slot_is : (k : Kept) → HasLeft p h (Some k) → k.slot ≡ slot
    slot_is k has = slot_of_name p k has.1 ∙ sound.places.number slot p at

    lower : (o : Option Kept) → HasLeft p h o → All (λ s. s < slot + 1) (map (λ k. k.slot) (kept ++ option_to_list o))
    lower None has = subst (λ (m : List Kept). All (λ s. s < slot + 1) (map (λ k. k.slot) m)) (sym (append-nil kept))
        (all_weaker (λ s. s < slot) (λ s. s < slot + 1) (λ s small. omega arith) (map (λ k. k.slot) kept) l.below)
    lower (Some k) has = subst (All (λ s. s < slot + 1)) (sym (map_push (λ k. k.slot) kept k))
        (All-push (λ s. s < slot + 1) (map (λ k. k.slot) kept) k.slot (all_weaker (λ s. s < slot) (λ s. s < slot + 1) (λ s small. omega arith) (map (λ k. k.slot) kept) l.below)
        (let e = slot_is k has in omega arith))

    rising : (o : Option Kept) → HasLeft p h o → Ascend (map (λ k. k.slot) (kept ++ option_to_list o))
    rising None has = subst (λ (m : List Kept). Ascend (map (λ k. k.slot) m)) (sym (append-nil kept)) l.ascend
    rising (Some k) has = subst Ascend (sym (map_push (λ k. k.slot) kept k))
        (ascend_push (map (λ k. k.slot) kept) k.slot l.ascend (subst (λ (n : ℕ). All (λ s. s < n) (map (λ k. k.slot) kept)) (sym (slot_is k has)) l.below))

    every : (o : Option Kept) → HasLeft p h o → All (IsLeft (shown_all states) (closed ++ h ∷ [])) (kept ++ option_to_list o)
    every None has = subst (All (IsLeft (shown_all states) (closed ++ h ∷ []))) (sym (append-nil kept))
        (all_weaker (IsLeft (shown_all states) closed) (IsLeft (shown_all states) (closed ++ h ∷ [])) (still_left (shown_all states) closed h) kept l.each)
    every (Some k) has = All-push (IsLeft (shown_all states) (closed ++ h ∷ [])) kept k
        (all_weaker (IsLeft (shown_all states) closed) (IsLeft (shown_all states) (closed ++ h ∷ [])) (still_left (shown_all states) closed h) kept l.each)
        (p, h, ap (λ i. slice_get (shown_all states) i) (slot_is k has) ∙ at, ap (λ i. slice_get (closed ++ h ∷ []) i) (slot_is k has ∙ sym l.count) ∙ last_place closed h, has.0)

-- all are left
pub leaves_all : (states now : List State) (slot : ℕ) (kept : List Kept) (closed : List (Holding ReaderView)) → AreSlots states → Leaves states now slot kept closed → slot ≡ length states
    → AreEndsOf (shown_all states) closed × AreLeft (shown_all states) closed kept
leaves_all states now slot kept closed sound l all =
    let size : slot ≡ length (shown_all states) = all ∙ sym (count_seen states sound.whole) in (
      record { count = l.count ∙ size; each = l.ends },
      record {
        names = l.names ∙ ap (λ (m : List Place). somes (map used_name m)) (ap (λ n. take n (shown_all states)) size ∙ take-length (shown_all states));
        ascend = l.ascend;
        each = l.each;
      },
    )
