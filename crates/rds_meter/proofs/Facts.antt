-- The rule without its sums and bits, and what a change of one view has to meet so that it goes on to hold.
use Rattle.std.proofs.Common.{◌≡◌, ℕ, ◌<◌, ◌≤◌, List, [], ◌∷◌, ◌++◌, set, None, is_some, true, sym, ap, ◌∙◌, subst, inl, inr, ⊎_elim, arith}
use Rattle.std.specs.Prelude.{Contains, slice_index}
use mathlib.Core.Logic.{dite}
use mathlib.Core.Option.{some-injective}
use native.Mathlib.Decide.{ℕ_discrete}
use lib.ListN.{get_elem?}
use Rattle.rds_seats.specs.Views.{At, Has, Each}
use Rattle.rds_seats.specs.ViewLaws.{at_there, has_snoc, each_set, each_snoc}
use Rattle.rds_meter.specs.declared.view.View.{View}
use Rattle.rds_meter.specs.declared.view.Check.{Check}
use Rattle.rds_meter.specs.declared.view.Stage.{Stage}
use Rattle.rds_meter.specs.declared.view.Stage.TheVariants.{Idle, Put, Limited}
use Rattle.rds_meter.specs.declared.view.Step.TheVariants.{Loaded}
use Rattle.rds_meter.specs.Places.{limit_word, put_word}
use Rattle.rds_meter.specs.Seats.{must_raise}
use Rattle.rds_meter.specs.Shared.{HasStored, IsLimit, HasRaised, BitsFit, FitsSlot, StageFits}

pub nothing_in : {X : Type 0} (x : X) → Contains [] x → ⊥
nothing_in x m = let k = m.1 in omega arith

abbrev pub Closed : List ℕ → List View → Check → Type 0
Closed words views c = FitsSlot words views c.slot c.put c.limit × (is_some c.raised ≡ must_raise c)

abbrev pub Opened : List ℕ → List View → Check → Type 0
Opened words views c = FitsSlot words views c.slot c.put c.limit × (must_raise c ≡ true) × (c.raised ≡ None)

pub record Facts (words : List ℕ) (views : List View) : Type 0 where
  pub limits : (slot : ℕ) → slot < 1024 → IsLimit views slot (slice_index words (limit_word slot))
  pub closed : Each views (λ v. (c : Check) → Contains v.checks c → Closed words views c)
  pub opened : Each views (λ v. (c : Check) → Contains v.pending c → Opened words views c)
  pub staged : Each views (λ v. StageFits words views v.stage)
  pub loaded : Each views (λ v. (word found : ℕ) → Contains v.steps (Loaded word found) → BitsFit views word found)

-- no put word falls
abbrev pub Rising : List ℕ → List ℕ → Type 0
Rising words after = (slot : ℕ) → slot < 1024 → slice_index words (put_word slot) ≤ slice_index after (put_word slot)

-- v becomes w among these views, and the words become those after
pub record Change (words after : List ℕ) (views now : List View) (v w : View) : Type 0 where
  pub puts : Rising words after
  pub stored : (slot limit : ℕ) → HasStored slot limit v → Has now (HasStored slot limit)
  pub raised : (port : ℕ) → HasRaised port v → Has now (HasRaised port)
  pub limits : (slot : ℕ) → slot < 1024 → IsLimit now slot (slice_index after (limit_word slot))
  pub closed : (c : Check) → Contains w.checks c → Closed words views c
  pub opened : (c : Check) → Contains w.pending c → Opened words views c
  pub staged : StageFits after views w.stage
  pub loaded : (word found : ℕ) → Contains w.steps (Loaded word found) → BitsFit views word found

-- what some seat knew some seat knows after one was set, if what that one knew is kept
pub has_on : (P : View → Type 0) (views : List View) (id : ℕ) (v w : View) → At views id v → (P v → Has (set views id w) P) → Has views P → Has (set views id w) P
has_on P views id v w here keeps h = dite (ℕ_discrete h.0 id)
    (λ same. keeps (subst P (some-injective _ _ (sym h.2 ∙ (ap (get_elem? views) same ∙ here))) h.3))
    (λ apart. (h.0, h.1, at_there views id h.0 h.1 w apart h.2, h.3))

-- facts about some views and words hold of others
module _ (words after : List ℕ) (views now : List View) (puts : Rising words after) (stored : (slot limit : ℕ) → Has views (HasStored slot limit) → Has now (HasStored slot limit)) where
  pub limit_on : (slot limit : ℕ) → IsLimit views slot limit → IsLimit now slot limit
  limit_on slot limit l = ⊎_elim inl (λ h. inr (stored slot limit h)) l

  pub found_on : (slot put limit : ℕ) → FitsSlot words views slot put limit → FitsSlot after now slot put limit
  found_on slot put limit f = record {
    slot_small = f.slot_small;
    put_within = (let a = puts slot f.slot_small in let b = f.put_within in omega arith);
    limit_was = limit_on slot limit f.limit_was;
  }

  pub stage_on : (s : Stage) → StageFits words views s → StageFits after now s
  stage_on Idle f = tt
  stage_on (Put slot put) f = found_on slot put 0 f
  stage_on (Limited slot put limit) f = found_on slot put limit f

  pub closed_on : (c : Check) → Closed words views c → Closed after now c
  closed_on c k = (found_on c.slot c.put c.limit k.0, k.1)

  pub opened_on : (c : Check) → Opened words views c → Opened after now c
  opened_on c k = (found_on c.slot c.put c.limit k.0, k.1, k.2)

pub bits_on : (views now : List View) → ((port : ℕ) → Has views (HasRaised port) → Has now (HasRaised port)) → (word bits : ℕ) → BitsFit views word bits → BitsFit now word bits
bits_on views now raised word bits f port low at set = raised port (f port low at set)

pub facts_set : (words after : List ℕ) (views : List View) (id : ℕ) (v w : View) → Facts words views → At views id v → Change words after views (set views id w) v w → Facts after (set views id w)
facts_set words after views id v w f here c =
    let now = set views id w in
    let stored : (slot limit : ℕ) → Has views (HasStored slot limit) → Has now (HasStored slot limit) = λ slot limit. has_on (HasStored slot limit) views id v w here (c.stored slot limit) in
    let raised : (port : ℕ) → Has views (HasRaised port) → Has now (HasRaised port) = λ port. has_on (HasRaised port) views id v w here (c.raised port) in
    let still : Rising after after = λ slot small. omega arith in
    record {
      limits = c.limits;
      closed = each_set (λ u. (k : Check) → Contains u.checks k → Closed words views k) (λ u. (k : Check) → Contains u.checks k → Closed after now k) views id w f.closed
          (λ u p k m. closed_on words after views now c.puts stored k (p k m))
          (λ k m. closed_on words after views now c.puts stored k (c.closed k m));
      opened = each_set (λ u. (k : Check) → Contains u.pending k → Opened words views k) (λ u. (k : Check) → Contains u.pending k → Opened after now k) views id w f.opened
          (λ u p k m. opened_on words after views now c.puts stored k (p k m))
          (λ k m. opened_on words after views now c.puts stored k (c.opened k m));
      staged = each_set (λ u. StageFits words views u.stage) (λ u. StageFits after now u.stage) views id w f.staged
          (λ u p. stage_on words after views now c.puts stored u.stage p)
          (stage_on after after views now still stored w.stage c.staged);
      loaded = each_set (λ u. (q n : ℕ) → Contains u.steps (Loaded q n) → BitsFit views q n) (λ u. (q n : ℕ) → Contains u.steps (Loaded q n) → BitsFit now q n) views id w f.loaded
          (λ u p q n m. bits_on views now raised q n (p q n m))
          (λ q n m. bits_on views now raised q n (c.loaded q n m));
    }

-- a seat that has found and done nothing is added
pub facts_snoc : (words : List ℕ) (views : List View) (u : View) → Facts words views → u.stage ≡ Idle → u.checks ≡ [] → u.pending ≡ [] → u.steps ≡ [] → Facts words (views ++ u ∷ [])
facts_snoc words views u f stage checks pending steps =
    let now = views ++ u ∷ [] in
    let stored : (slot limit : ℕ) → Has views (HasStored slot limit) → Has now (HasStored slot limit) = λ slot limit. has_snoc (HasStored slot limit) views u in
    let raised : (port : ℕ) → Has views (HasRaised port) → Has now (HasRaised port) = λ port. has_snoc (HasRaised port) views u in
    let still : Rising words words = λ slot small. omega arith in
    record {
      limits = λ slot small. limit_on words words views now still stored slot _ (f.limits slot small);
      closed = each_snoc (λ x. (k : Check) → Contains x.checks k → Closed words views k) (λ x. (k : Check) → Contains x.checks k → Closed words now k) views u f.closed
          (λ x p k m. closed_on words words views now still stored k (p k m))
          (λ k m. absurd (nothing_in k (subst (λ l. Contains l k) checks m)));
      opened = each_snoc (λ x. (k : Check) → Contains x.pending k → Opened words views k) (λ x. (k : Check) → Contains x.pending k → Opened words now k) views u f.opened
          (λ x p k m. opened_on words words views now still stored k (p k m))
          (λ k m. absurd (nothing_in k (subst (λ l. Contains l k) pending m)));
      staged = each_snoc (λ x. StageFits words views x.stage) (λ x. StageFits words now x.stage) views u f.staged
          (λ x p. stage_on words words views now still stored x.stage p)
          (subst (StageFits words now) (sym stage) tt);
      loaded = each_snoc (λ x. (q n : ℕ) → Contains x.steps (Loaded q n) → BitsFit views q n) (λ x. (q n : ℕ) → Contains x.steps (Loaded q n) → BitsFit now q n) views u f.loaded
          (λ x p q n m. bits_on views now raised q n (p q n m))
          (λ q n m. absurd (nothing_in (Loaded q n) (subst (λ l. Contains l (Loaded q n)) steps m)));
    }
