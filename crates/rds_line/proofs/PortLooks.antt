-- The looks of a line's seat at the port table, where its journal or the seat has more.
use Rattle.std.proofs.Common.{◌≡◌, ◌≢◌, ◌⊎◌, inl, inr, ℕ, ◌<◌, Option, Some, None, List, [], ◌∷◌, ◌++◌, ap, subst, refl, arith}
use Rattle.std.specs.List.{Contains}
use Rattle.std.proofs.lemmas.List.Elements.{Contains-append_left, Contains-append_cases, Contains-push, Contains-push_cases}
use Rattle.rds_wire.specs.declared.frame.Frame.{Frame}
use Rattle.rds_model.specs.declared.entry.Entry.{Entry}
use Rattle.rds_model.specs.declared.entry.Entry.TheVariants.{Read}
use Rattle.rds_model.specs.declared.entry.Outcome.TheVariants as outcome
use Rattle.rds_bindtab.specs.declared.view.Step.{Step}
use Rattle.rds_bindtab.specs.declared.view.Step.TheVariants.{Claimed, Looked}
use Rattle.rds_bindtab.specs.declared.view.Telling.{Telling}
use Rattle.rds_bindtab.specs.declared.view.View.{View}
use Rattle.rds_bindtab.specs.Seats.{after_look}
use Rattle.rds_line.specs.Seats.{AreLooksFor, HasLooked, WasAlwaysTold}

-- a list contains what it begins with, or it stands later
pub only_this : {X : Type 0} (e x : X) → Contains (e ∷ []) x → e ≡ x
only_this {X} e x has = go (Contains-push_cases [] e x has)
  where
    go : Contains [] x ⊎ (e ≡ x) → e ≡ x
    go (inl none) = let small = none.1 in absurd (omega arith)
    go (inr is) = is

pub first_or_later : {X : Type 0} (e : X) (xs : List X) (x : X) → Contains (e ∷ xs) x → (e ≡ x) ⊎ Contains xs x
first_or_later {X} e xs x has = go (Contains-append_cases (e ∷ []) xs x has)
  where
    go : Contains (e ∷ []) x ⊎ Contains xs x → (e ≡ x) ⊎ Contains xs x
    go (inl here) = inl (only_this e x here)
    go (inr later) = inr later

pub later_only : {X : Type 0} (e : X) (xs : List X) (x : X) → e ≢ x → Contains (e ∷ xs) x → Contains xs x
later_only {X} e xs x other has = go (first_or_later e xs x has)
  where
    go : (e ≡ x) ⊎ Contains xs x → Contains xs x
    go (inl is) = absurd (other is)
    go (inr later) = later

-- what became of a datagram that was read, of which slot
abbrev pub the_port : Entry → ℕ
the_port (Read stream frame came) = frame.header.dport
the_port _ = 0

abbrev pub the_slot : Entry → ℕ
the_slot (Read stream frame (outcome.Slot slot)) = slot
the_slot _ = 0

-- where no slot was found there is none
pub found_none : (found : Option ℕ) → ((slot : ℕ) → found ≢ Some slot) → found ≡ None
found_none None none = refl
found_none (Some slot) none = absurd (none slot refl)

pub looks_none : {size : ℕ} → AreLooksFor size [] []
looks_none {size} = record {
  slots = λ stream slot frame has. let small = has.1 in absurd (omega arith);
  below = λ stream slot frame has. let small = has.1 in absurd (omega arith);
  none = λ stream frame has. let small = has.1 in absurd (omega arith);
  claims = λ port slot found has. let small = has.1 in omega arith;
}

module _ {size : ℕ} (past : List Entry) (steps : List Step) where
  -- an entry that is no reading for which a look was made
  pub looks_beside : (e : Entry) → ((stream slot : ℕ) (frame : Frame) → e ≢ Read stream frame (outcome.Slot slot)) →
      ((stream : ℕ) (frame : Frame) → e ≢ Read stream frame outcome.NoSocket) → AreLooksFor size past steps → AreLooksFor size (e ∷ past) steps
  looks_beside e no_slot no_none was = record {
    slots = λ stream slot frame has.
        was.slots stream slot frame (later_only e past (Read stream frame (outcome.Slot slot)) (no_slot stream slot frame) has);
    below = λ stream slot frame has.
        was.below stream slot frame (later_only e past (Read stream frame (outcome.Slot slot)) (no_slot stream slot frame) has);
    none = λ stream frame has.
        was.none stream frame (later_only e past (Read stream frame outcome.NoSocket) (no_none stream frame) has);
    claims = was.claims;
  }

  -- a datagram that was delivered, for which the look was made
  pub looks_slot : (s slot : ℕ) (f : Frame) → slot < size → HasLooked f.header.dport (Some slot) steps → AreLooksFor size past steps →
      AreLooksFor size (Read s f (outcome.Slot slot) ∷ past) steps
  looks_slot s slot f small look was = record {
    slots = λ stream other frame has. found stream other frame (first_or_later e past (Read stream frame (outcome.Slot other)) has);
    below = λ stream other frame has. within stream other frame (first_or_later e past (Read stream frame (outcome.Slot other)) has);
    none = λ stream frame has. was.none stream frame (later_only e past (Read stream frame outcome.NoSocket) (λ is. absurd (cc)) has);
    claims = was.claims;
  }
    where
      e : Entry
      e = Read s f (outcome.Slot slot)

      found : (stream other : ℕ) (frame : Frame) → (e ≡ Read stream frame (outcome.Slot other)) ⊎ Contains past (Read stream frame (outcome.Slot other)) →
          HasLooked frame.header.dport (Some other) steps
      found stream other frame (inl is) =
          subst (λ (k : ℕ). HasLooked frame.header.dport (Some k) steps) (ap the_slot is)
          (subst (λ (p : ℕ). HasLooked p (Some slot) steps) (ap the_port is) look)
      found stream other frame (inr has) = was.slots stream other frame has

      within : (stream other : ℕ) (frame : Frame) → (e ≡ Read stream frame (outcome.Slot other)) ⊎ Contains past (Read stream frame (outcome.Slot other)) → other < size
      within stream other frame (inl is) = subst (λ (k : ℕ). k < size) (ap the_slot is) small
      within stream other frame (inr has) = was.below stream other frame has

  -- one that no socket held
  pub looks_nobody : (s : ℕ) (f : Frame) → HasLooked f.header.dport None steps → AreLooksFor size past steps →
      AreLooksFor size (Read s f outcome.NoSocket ∷ past) steps
  looks_nobody s f look was = record {
    slots = λ stream slot frame has. was.slots stream slot frame (later_only e past (Read stream frame (outcome.Slot slot)) (λ is. absurd (cc)) has);
    below = λ stream slot frame has. was.below stream slot frame (later_only e past (Read stream frame (outcome.Slot slot)) (λ is. absurd (cc)) has);
    none = λ stream frame has. found stream frame (first_or_later e past (Read stream frame outcome.NoSocket) has);
    claims = was.claims;
  }
    where
      e : Entry
      e = Read s f outcome.NoSocket

      found : (stream : ℕ) (frame : Frame) → (e ≡ Read stream frame outcome.NoSocket) ⊎ Contains past (Read stream frame outcome.NoSocket) →
          HasLooked frame.header.dport None steps
      found stream frame (inl is) = subst (λ (p : ℕ). HasLooked p None steps) (ap the_port is) look
      found stream frame (inr has) = was.none stream frame has

  -- one more look
  pub looks_again : (port : ℕ) (found : Option ℕ) (told : List Telling) → AreLooksFor size past steps →
      AreLooksFor size past (steps ++ Looked port found told ∷ [])
  looks_again port found told was = record {
    slots = λ stream slot frame has.
        let look = was.slots stream slot frame has in (look.0, Contains-append_left steps (Looked port found told ∷ []) (Looked frame.header.dport (Some slot) look.0) look.1);
    below = was.below;
    none = λ stream frame has.
        let look = was.none stream frame has in (look.0, Contains-append_left steps (Looked port found told ∷ []) (Looked frame.header.dport None look.0) look.1);
    claims = λ p slot n has. claimed p slot n (Contains-push_cases steps (Looked port found told) (Claimed p slot n) has);
  }
    where
      claimed : (p slot n : ℕ) → Contains steps (Claimed p slot n) ⊎ (Looked port found told ≡ Claimed p slot n) → ⊥
      claimed p slot n (inl has) = was.claims p slot n has
      claimed p slot n (inr is) = absurd (cc)

-- the look that was made last, and one before it
pub looked_last : (steps : List Step) (port : ℕ) (found : Option ℕ) (told : List Telling) → HasLooked port found (steps ++ Looked port found told ∷ [])
looked_last steps port found told = (told, Contains-push steps (Looked port found told))

pub looked_still : (steps more : List Step) (port : ℕ) (found : Option ℕ) → HasLooked port found steps → HasLooked port found (steps ++ more)
looked_still steps more port found look = (look.0, Contains-append_left steps more (Looked port found look.0) look.1)

-- what the seat had been told when it looked
abbrev pub the_told : Step → List Telling
the_told (Looked port found told) = told
the_told _ = []

-- one more look, before which it had been told what it had been told before the others
pub told_looked : (t : Telling) (v : View) (port : ℕ) (found : Option ℕ) → WasAlwaysTold t v → WasAlwaysTold t (after_look v port found)
told_looked t v port found was = record {
  tells = was.tells;
  first = λ p other told has. look p other told (Contains-push_cases v.steps (Looked port found v.told) (Looked p other told) has);
}
  where
    look : (p : ℕ) (other : Option ℕ) (told : List Telling) → Contains v.steps (Looked p other told) ⊎ (Looked port found v.told ≡ Looked p other told) → Contains told t
    look p other told (inl has) = was.first p other told has
    look p other told (inr is) = subst (λ (l : List Telling). Contains l t) (ap the_told is) was.tells
