-- How slots and lines are told of each other, one after another.
use Rattle.std.proofs.Common.{◌≡◌, ◌⊎◌, ℕ, zero, suc, ◌+◌, ◌-◌, ◌<◌, ◌≤◌, List, [], ◌∷◌, ◌++◌, Some, length, length-append, set, take, drop, slice_get, refl, inl, inr, sym, ap, subst, ⊎_elim, ◌∙◌, arith}
use Rattle.std.proofs.lemmas.Option.{same_Some, slice_get_within}
use Rattle.atomic_table.proofs.Lists.{at_last, at_longer}
use Rattle.rds_seats.specs.Views.{At, Has}
use Rattle.rds_model.specs.Honest.{Begins}
use Rattle.rds_model.specs.SumLaws.{same_list}
use Rattle.rds_model.specs.declared.order.Datagram.{Datagram}
use Rattle.rds_mail.specs.declared.view.Account.{Account}
use Rattle.rds_mail.specs.Passes.{Putter, account_of, after_note}
use Rattle.rds_fmap.specs.Readers.{ReaderView}
use Rattle.rds_socket.specs.Calls.{with_inbox}
use Rattle.rds_socket.specs.Holding.{Holding}
use Rattle.rds_host.specs.Keeping.{SlotKeeps, SlotsKeep}
use Rattle.rds_host.specs.Settled.{AreSlotsToldMore, IsToldMore}
use Rattle.rds_host.specs.Telling.{IsTold}
use Rattle.rds_host.proofs.Staying.{begins_through}

pub has_more : {V : Type 0} (P : V → Type 0) (views more : List V) → Begins views more → Has views P → Has more P
has_more P views more begins h = (h.0, h.1, subst (λ l. At l h.0 h.1) (sym begins.1) (at_longer views begins.0 h.0 h.1 h.2), h.3)

pub has_last : {V : Type 0} (P : V → Type 0) (views : List V) (v : V) → P v → Has (views ++ v ∷ []) P
has_last P views v holds = (length views, v, at_last views v (length views) refl, holds)

-- what was told stays told, and what is told now is told
pub told_still : {T : Type 0} (told more : List (Account T)) (p : Putter T) → Begins told more → IsTold told p → IsTold more p
told_still told more p begins was = has_more (λ t. (t.number ≡ p.number) × (t.put ≡ p.put)) told more begins was

pub told_now : {T : Type 0} (told : List (Account T)) (p : Putter T) → IsTold (told ++ account_of p ∷ []) p
told_now told p = has_last (λ t. (t.number ≡ p.number) × (t.put ≡ p.put)) told (account_of p) (refl, refl)

-- what stands in two lists, one behind the other, stands in one of them
pub appended_at : {X : Type 0} (xs ys : List X) (x : X) (i : ℕ) → slice_get (xs ++ ys) i ≡ Some x → (slice_get xs i ≡ Some x) ⊎ ((length xs ≤ i) × (slice_get ys (i - length xs) ≡ Some x))
appended_at [] ys x i at = inr (omega arith, subst (λ (k : ℕ). slice_get ys k ≡ Some x) (omega arith) at)
appended_at (z ∷ xs) ys x zero at = inl at
appended_at (z ∷ xs) ys x (suc i) at =
    ⊎_elim
    (λ there. inl there)
    (λ (later : (length xs ≤ i) × (slice_get ys (i - length xs) ≡ Some x)).
    let long = later.0 in
    let same : i - length xs ≡ suc i - suc (length xs) = omega arith in
    inr (omega arith, subst (λ (k : ℕ). slice_get ys k ≡ Some x) same later.1))
    (appended_at xs ys x i at)

pub ahead : {X : Type 0} (xs ys : List X) (x : X) (i : ℕ) → slice_get xs i ≡ Some x → slice_get (xs ++ ys) i ≡ Some x
ahead [] ys x i at = absurd (let small = slice_get_within [] i x at in omega arith)
ahead (z ∷ xs) ys x zero at = at
ahead (z ∷ xs) ys x (suc i) at = ahead xs ys x i at

behind_more : {X : Type 0} (z : X) (ys : List X) (x : X) (k : ℕ) → slice_get ys k ≡ Some x → slice_get (z ∷ ys) (suc k) ≡ Some x
behind_more z ys x k at = at

pub behind : {X : Type 0} (xs ys : List X) (x : X) (i : ℕ) → slice_get ys i ≡ Some x → slice_get (xs ++ ys) (length xs + i) ≡ Some x
behind [] ys x i at = subst (λ (k : ℕ). slice_get ys k ≡ Some x) (omega arith) at
behind (z ∷ xs) ys x i at = let more : suc (length xs + i) ≡ suc (length xs) + i = omega arith in subst (λ (k : ℕ). slice_get (z ∷ xs ++ ys) k ≡ Some x) more (behind_more z (xs ++ ys) x (length xs + i) (behind xs ys x i at))

-- what stands first in what is left of a list
first_left : {X : Type 0} (xs : List X) (i : ℕ) → slice_get (drop i xs) 0 ≡ slice_get xs i
first_left [] zero = refl
first_left [] (suc i) = refl
first_left (x ∷ xs) zero = refl
first_left (x ∷ xs) (suc i) = first_left xs i

-- two lists with the same left stand alike there
pub same_at : {X : Type 0} (xs ys : List X) (i : ℕ) (x : X) → drop i xs ≡ drop i ys → slice_get xs i ≡ Some x → slice_get ys i ≡ Some x
same_at xs ys i x same at = sym (first_left ys i) ∙ (ap (λ (l : List _). slice_get l 0) (sym same) ∙ (first_left xs i ∙ at))

take_one_set : {X : Type 0} (xs : List X) (i : ℕ) (y : X) → i < length xs → take (suc i) (set xs i y) ≡ take i xs ++ y ∷ []
take_one_set [] i y small = absurd (omega arith)
take_one_set (x ∷ xs) zero y small = refl
take_one_set (x ∷ xs) (suc i) y small = ap (λ (l : List _). x ∷ l) (take_one_set xs i y (omega arith))

pub taken_set : {X : Type 0} (xs : List X) (i : ℕ) (y : X) → i < length xs → take (i + 1) (set xs i y) ≡ take i xs ++ y ∷ []
taken_set xs i y small = let next : i + 1 ≡ suc i = omega arith in ap (λ (n : ℕ). take n (set xs i y)) next ∙ take_one_set xs i y small

pub only_at : {X : Type 0} (x y : X) (i : ℕ) → slice_get (x ∷ []) i ≡ Some y → x ≡ y
only_at x y zero at = same_Some x y at
only_at x y (suc i) at = absurd (let small = slice_get_within (x ∷ []) (suc i) y at in omega arith)

module _ {R : Type 0} where
  pub slot_told_same : (h : Holding R) → IsToldMore h h
  slot_told_same h = record { rest = refl; told = same_list h.inbox.get.told }

  pub slot_told_through : (old middle new : Holding R) → IsToldMore old middle → IsToldMore middle new → IsToldMore old new
  slot_told_through old middle new first second = record {
    rest = second.rest ∙ ap (λ (h : Holding R). with_inbox h (record h.inbox { get = record h.inbox.get { told = new.inbox.get.told } })) first.rest;
    told = begins_through old.inbox.get.told middle.inbox.get.told new.inbox.get.told first.told second.told;
  }

  pub none_slots : AreSlotsToldMore {R = R} [] []
  none_slots = record { count = refl; each = λ slot h after stood stands. absurd (let small = slice_get_within [] slot h stood in omega arith) }

  pub slots_append : (old new more later : List (Holding R)) → AreSlotsToldMore old new → AreSlotsToldMore more later → AreSlotsToldMore (old ++ more) (new ++ later)
  slots_append old new more later first second = record {
    count =
        let a = length-append old more in
        let b = length-append new later in
        let one = first.count in
        let two = second.count in
        omega arith;
    each = λ slot h after stood stands.
        let one = first.count in
        ⊎_elim
        (λ (was : slice_get old slot ≡ Some h).
        let small = slice_get_within old slot h was in
        ⊎_elim
        (λ (is : slice_get new slot ≡ Some after). first.each slot h after was is)
        (λ (is : (length new ≤ slot) × (slice_get later (slot - length new) ≡ Some after)). absurd (let past = is.0 in omega arith))
        (appended_at new later after slot stands))
        (λ (was : (length old ≤ slot) × (slice_get more (slot - length old) ≡ Some h)).
        let past = was.0 in
        ⊎_elim
        (λ (is : slice_get new slot ≡ Some after). absurd (let small = slice_get_within new slot after is in omega arith))
        (λ (is : (length new ≤ slot) × (slice_get later (slot - length new) ≡ Some after)).
        second.each (slot - length old) h after was.1 (subst (λ (n : ℕ). slice_get later (slot - n) ≡ Some after) one is.1))
        (appended_at new later after slot stands))
        (appended_at old more h slot stood);
  }

slot_keeps : (old new : Holding ReaderView) → IsToldMore old new → SlotKeeps old new
slot_keeps old new more =
    subst (SlotKeeps old) (sym more.rest)
    (record {
      stays = record { slot = refl; table = refl; meter = refl; seats = refl; bell = refl; mail = refl; routes = record { fixed_parts = refl; seen = λ place port seen was. was } };
      joined = refl;
    })

pub slots_keep_told : (old new : List (Holding ReaderView)) → AreSlotsToldMore old new → SlotsKeep old new
slots_keep_told old new more = record { count = more.count; each = λ slot h after stood stands. slot_keeps h after (more.each slot h after stood stands) }

-- a slot whose mailbox was told of this putter
abbrev pub heard : Holding ReaderView → Putter Datagram → Holding ReaderView
heard h box = with_inbox h (record h.inbox { get = after_note h.inbox.get box })
