-- The ends of each connection in a past of a script, and what an event changes of them.
use Rattle.std.proofs.Common.{◌≡◌, ◌≢◌, ◌⊎◌, inl, inr, ℕ, ◌+◌, ◌<◌, ◌≤◌, ◌==◌, ◌&&◌, Bool, true, false, cond, Some, List, [], ◌∷◌, refl, sym, ◌∙◌, ap, subst, arith}
use Rattle.std.proofs.lemmas.Bool.{cases_eq, cond-true, cond-false, eqb-true, and_parts, and_from, false_from_ne_true, eq-eqb}
use Rattle.rds_model.specs.declared.entry.Entry.{Entry}
use Rattle.rds_model.specs.declared.entry.Entry.TheVariants.{Accept, Cancel, Open, Pull, Read, Shut, Bad}
use Rattle.rds_model.specs.declared.entry.TheConstants.{MAX_SLOTS}
use Rattle.rds_history.specs.Events.{Event, Appended, Marked, Moved, Printed}
use Rattle.rds_history.specs.Journals.{journal, moved_count}
use Rattle.rds_history.specs.Sockets.{holder}
use Rattle.rds_history.proofs.JoinedEnds.{Ends, AreJoined, joined_turned, turned}

-- the ends of the connection of h and k
abbrev pub ends : (h k : ℕ) → List Event → Ends
ends h k past =
    record { here = journal h k past; there = journal k h past; forth = moved_count h k past; back = moved_count k h past }

-- two of so many hosts
pub record AreTwo (hosts h k : ℕ) : Type 0 where
  pub first : h < hosts
  pub second : k < hosts
  pub apart : h ≢ k

pub two_turned : (hosts h k : ℕ) → AreTwo hosts h k → AreTwo hosts k h
two_turned hosts h k two = record { first = two.second; second = two.first; apart = λ same. two.apart (sym same) }

-- What each past of a script keeps: each two hosts are joined, no host has a journal with itself, nor has one that isn't of
-- the script, and each socket has a slot.
pub record Keeps (hosts : ℕ) (past : List Event) : Type 0 where
  pub joined : (h k : ℕ) → h ≢ k → AreJoined (ends h k past)
  pub own : (h : ℕ) → journal h h past ≡ []
  pub beyond : (h k : ℕ) → hosts ≤ h → journal h k past ≡ []
  pub slots : (h port slot : ℕ) → holder h port past ≡ Some slot → slot < MAX_SLOTS

-- between all others everything is as before, and so are all sockets
pub record IsStill (h k : ℕ) (past later : List Event) : Type 0 where
  pub others : (x y : ℕ) → ((x ≡ h) × (y ≡ k) → ⊥) → ((x ≡ k) × (y ≡ h) → ⊥) → ends x y later ≡ ends x y past
  pub own : (x : ℕ) → journal x x later ≡ journal x x past
  pub sockets : (x port : ℕ) → holder x port later ≡ holder x port past

pub still_then : (h k : ℕ) (past mid later : List Event) → IsStill h k past mid → IsStill h k mid later → IsStill h k past later
still_then h k past mid later first second = record {
  others = λ x y a b. second.others x y a b ∙ first.others x y a b;
  own = λ x. second.own x ∙ first.own x;
  sockets = λ x port. second.sockets x port ∙ first.sockets x port;
}

pub still_turned : (h k : ℕ) (past later : List Event) → IsStill h k past later → IsStill k h past later
still_turned h k past later still =
    record { others = λ x y a b. still.others x y b a; own = still.own; sockets = still.sockets }

-- where the two hosts stay joined, all is kept
pub keeps_later : (hosts h k : ℕ) (past later : List Event) → AreTwo hosts h k → Keeps hosts past → IsStill h k past later → AreJoined (ends h k later) →
    Keeps hosts later
keeps_later hosts h k past later two keeps still joined = record {
  joined = λ x y other. go x y other (cases_eq x h) (cases_eq y k) (cases_eq x k) (cases_eq y h);
  own = λ x. still.own x ∙ keeps.own x;
  beyond = λ x y far.
      ap (λ (e : Ends). e.here) (still.others x y (λ both. omega (arith, far, both.0, two.first)) (λ both. omega (arith, far, both.0, two.second)))
      ∙ keeps.beyond x y far;
  slots = λ x port slot is. keeps.slots x port slot (sym (still.sockets x port) ∙ is);
}
  where
    other_pair : (x y : ℕ) → x ≢ y → ((x ≡ h) × (y ≡ k) → ⊥) → ((x ≡ k) × (y ≡ h) → ⊥) → AreJoined (ends x y later)
    other_pair x y other a b = subst AreJoined (sym (still.others x y a b)) (keeps.joined x y other)

    go : (x y : ℕ) → x ≢ y → (x ≡ h) ⊎ (x ≡ h → ⊥) → (y ≡ k) ⊎ (y ≡ k → ⊥) → (x ≡ k) ⊎ (x ≡ k → ⊥) → (y ≡ h) ⊎ (y ≡ h → ⊥) →
        AreJoined (ends x y later)
    go x y other (inl a) (inl b) c d = subst (λ (i : ℕ). AreJoined (ends i y later)) (sym a) (subst (λ (i : ℕ). AreJoined (ends h i later)) (sym b) joined)
    go x y other a b (inl c) (inl d) =
        subst (λ (i : ℕ). AreJoined (ends i y later)) (sym c)
        (subst (λ (i : ℕ). AreJoined (ends k i later)) (sym d) (joined_turned (ends h k later) joined))
    go x y other (inr a) b (inr c) d = other_pair x y other (λ both. a both.0) (λ both. c both.0)
    go x y other (inr a) b c (inr d) = other_pair x y other (λ both. a both.0) (λ both. d both.1)
    go x y other a (inr b) (inr c) d = other_pair x y other (λ both. b both.1) (λ both. c both.0)
    go x y other a (inr b) c (inr d) = other_pair x y other (λ both. b both.1) (λ both. d both.1)

-- which pair an event is of
pair_is : (h k x y : ℕ) → (h == x && (k == y)) ≡ true → (x ≡ h) × (y ≡ k)
pair_is h k x y is = let both = and_parts (h == x) (k == y) is in (sym (eqb-true h x both.0), sym (eqb-true k y both.1))

same_pair : (h k : ℕ) → (h == h && (k == k)) ≡ true
same_pair h k = and_from (h == h) (k == k) (eq-eqb h h refl) (eq-eqb k k refl)

other_pair : (h k x y : ℕ) → ((x ≡ h) × (y ≡ k) → ⊥) → (h == x && (k == y)) ≡ false
other_pair h k x y other = false_from_ne_true (h == x && (k == y)) (λ is. other (pair_is h k x y is))

-- how many bytes went on the newest stream, behind an entry
abbrev pub counted : Entry → ℕ → ℕ
counted (Open stream) n = 0
counted (Accept slot sport dport payload) n = n
counted (Cancel slot target) n = n
counted (Pull stream frame) n = n
counted (Read stream frame outcome) n = n
counted (Shut stream) n = n
counted (Bad stream header cause) n = n

same_either : (b : Bool) (n : ℕ) → n ≡ cond b n n
same_either true n = refl
same_either false n = refl

moved_appended : (h k x y : ℕ) (e : Entry) (past : List Event) →
    moved_count x y (Appended h k e ∷ past) ≡ cond (h == x && (k == y)) (counted e (moved_count x y past)) (moved_count x y past)
moved_appended h k x y (Open stream) past = refl
moved_appended h k x y (Accept slot sport dport payload) past = same_either (h == x && (k == y)) (moved_count x y past)
moved_appended h k x y (Cancel slot target) past = same_either (h == x && (k == y)) (moved_count x y past)
moved_appended h k x y (Pull stream frame) past = same_either (h == x && (k == y)) (moved_count x y past)
moved_appended h k x y (Read stream frame outcome) past = same_either (h == x && (k == y)) (moved_count x y past)
moved_appended h k x y (Shut stream) past = same_either (h == x && (k == y)) (moved_count x y past)
moved_appended h k x y (Bad stream header cause) past = same_either (h == x && (k == y)) (moved_count x y past)

module _ (h k : ℕ) (e : Entry) (past : List Event) where
  journal_other : (x y : ℕ) → ((x ≡ h) × (y ≡ k) → ⊥) → journal x y (Appended h k e ∷ past) ≡ journal x y past
  journal_other x y other = cond-false (h == x && (k == y)) (e ∷ journal x y past) (journal x y past) (other_pair h k x y other)

  moved_other : (x y : ℕ) → ((x ≡ h) × (y ≡ k) → ⊥) → moved_count x y (Appended h k e ∷ past) ≡ moved_count x y past
  moved_other x y other =
      moved_appended h k x y e past
      ∙ cond-false (h == x && (k == y)) (counted e (moved_count x y past)) (moved_count x y past) (other_pair h k x y other)

  pub still_appended : h ≢ k → IsStill h k past (Appended h k e ∷ past)
  still_appended apart = record {
    others = λ x y a b i. record {
      here = journal_other x y a i;
      there = journal_other y x (λ both. b (both.1, both.0)) i;
      forth = moved_other x y a i;
      back = moved_other y x (λ both. b (both.1, both.0)) i;
    };
    own = λ x. journal_other x x (λ both. apart (sym both.0 ∙ both.1));
    sockets = λ x port. refl;
  }

  -- an entry at this end, and at the other
  pub appended_here : h ≢ k →
      ends h k (Appended h k e ∷ past) ≡ record (ends h k past) { here = e ∷ journal h k past; forth = counted e (moved_count h k past) }
  appended_here apart i = record {
    here = cond-true (h == h && (k == k)) (e ∷ journal h k past) (journal h k past) (same_pair h k) i;
    there = journal_other k h (λ both. apart (sym both.0)) i;
    forth = (moved_appended h k h k e past ∙ cond-true (h == h && (k == k)) (counted e (moved_count h k past)) (moved_count h k past) (same_pair h k)) i;
    back = moved_other k h (λ both. apart (sym both.0)) i;
  }

  pub appended_there : h ≢ k →
      ends k h (Appended h k e ∷ past) ≡ record (ends k h past) { there = e ∷ journal h k past; back = counted e (moved_count h k past) }
  appended_there apart = ap turned (appended_here apart)

-- bytes that go
module _ (h k count : ℕ) (past : List Event) where
  pub still_moved : IsStill h k past (Moved h k count ∷ past)
  still_moved = record {
    others = λ x y a b i. record {
      here = journal x y past;
      there = journal y x past;
      forth = moved_other x y a i;
      back = moved_other y x (λ both. b (both.1, both.0)) i;
    };
    own = λ x. refl;
    sockets = λ x port. refl;
  }
    where
      moved_other : (x y : ℕ) → ((x ≡ h) × (y ≡ k) → ⊥) → moved_count x y (Moved h k count ∷ past) ≡ moved_count x y past
      moved_other x y other =
          cond-false (h == x && (k == y)) (moved_count x y past + count) (moved_count x y past) (other_pair h k x y other)

  pub moved_here : h ≢ k → ends h k (Moved h k count ∷ past) ≡ record (ends h k past) { forth = moved_count h k past + count }
  moved_here apart i = record {
    here = journal h k past;
    there = journal k h past;
    forth = cond-true (h == h && (k == k)) (moved_count h k past + count) (moved_count h k past) (same_pair h k) i;
    back = cond-false (h == k && (k == h)) (moved_count k h past + count) (moved_count k h past) (other_pair h k k h (λ both. apart (sym both.0))) i;
  }

-- a mark, and a text line
pub keeps_marked : (hosts h port : ℕ) (set : Bool) (queued most : ℕ) (past : List Event) → Keeps hosts past → Keeps hosts (Marked h port set queued most ∷ past)
keeps_marked hosts h port set queued most past keeps =
    record { joined = keeps.joined; own = keeps.own; beyond = keeps.beyond; slots = keeps.slots }

pub keeps_printed : (hosts : ℕ) (text : List ℕ) (past : List Event) → Keeps hosts past → Keeps hosts (Printed text ∷ past)
keeps_printed hosts text past keeps =
    record { joined = keeps.joined; own = keeps.own; beyond = keeps.beyond; slots = keeps.slots }
