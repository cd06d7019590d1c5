-- What a seat knows of the bits that loads found set, once all other seats were joined into it.
use Rattle.std.proofs.Common.{◌≡◌, ◌⊎◌, inl, inr, ℕ, zero, suc, ◌<◌, ◌≤◌, true, is_some, List, [], ◌∷◌, ◌++◌, refl, sym, ap, ◌∙◌, subst, arith}
use Rattle.std.specs.Prelude.{Contains, slice_index}
use Rattle.std.proofs.lemmas.Bool.Decides.{nat_tests}
use Rattle.std.proofs.lemmas.List.Elements.{Contains-append_left, Contains-append_right, Contains-append_cases, Contains-push, Contains-push_cases}
use mathlib.Core.Option.{some-injective}
use Rattle.rds_seats.specs.Views.{At, Has, total}
use Rattle.rds_seats.specs.ViewLaws.{total_snoc}
use Rattle.rds_meter.specs.declared.view.View.{View}
use Rattle.rds_meter.specs.declared.view.Check.{Check}
use Rattle.rds_meter.specs.declared.view.Step.{Step}
use Rattle.rds_meter.specs.declared.view.Step.TheVariants.{Loaded}
use Rattle.rds_meter.specs.Places.{map_word, put_word, part}
use Rattle.rds_meter.specs.PartLaws.{part-append}
use Rattle.rds_meter.specs.Seats.{MeterSeat, joined, knowing, must_raise}
use Rattle.rds_meter.specs.Shared.{Alone, HasRaised, HasStored, IsLimit}
use Rattle.rds_meter.specs.Grounds.{AreAllSeats, AreRaisedAmong, SomeOf, seats_of}
use Rattle.rds_meter.specs.Joining.{IsJoinOf, OneOf}

-- what some of one view knows is what that one knows
only_one : (P : View → Type 0) (v : View) → Has (v ∷ []) P → P v
only_one P v h = go h.0 h.2
  where
    go : (i : ℕ) → At (v ∷ []) i h.1 → P v
    go zero at = subst P (sym (some-injective _ _ at)) h.3
    go (suc i) at = absurd (cc)

-- a check that had to raise found a limit, and more put than that
limit_found : (c : Check) → must_raise c ≡ true → 0 < c.limit
limit_found c must = grind (arith, nat_tests)

over_limit : (c : Check) → must_raise c ≡ true → c.limit < c.put
over_limit c must = grind (arith, nat_tests)

stored_of : (slot limit : ℕ) (v : View) → 0 < limit → IsLimit (v ∷ []) slot limit → HasStored slot limit v
stored_of slot limit v some (inl none) = absurd (omega arith)
stored_of slot limit v some (inr has) = only_one (HasStored slot limit) v has

-- one of a list knows it where one of the list with another does
some_more : (P : View → Type 0) (others : List MeterSeat) (h : MeterSeat) → SomeOf others P → SomeOf (others ++ h ∷ []) P
some_more P others h s = (s.0, Contains-append_left others (h ∷ []) s.0 s.1, s.2)

some_last : (P : View → Type 0) (others : List MeterSeat) (h : MeterSeat) → P h.view → SomeOf (others ++ h ∷ []) P
some_last P others h p = (h, Contains-push others h, p)

one_more : (P : View → Type 0) (first : MeterSeat) (others : List MeterSeat) (h : MeterSeat) → OneOf first others P → OneOf first (others ++ h ∷ []) P
one_more P first others h (inl own) = inl own
one_more P first others h (inr other) = inr (some_more P others h other)

-- the last of a list, or one before it
one_or_last : (P : View → Type 0) (first : MeterSeat) (others : List MeterSeat) (h : MeterSeat) → OneOf first (others ++ h ∷ []) P → OneOf first others P ⊎ P h.view
one_or_last P first others h (inl own) = inl (inl own)
one_or_last P first others h (inr s) = go (Contains-push_cases others h s.0 s.1)
  where
    go : Contains others s.0 ⊎ (h ≡ s.0) → OneOf first others P ⊎ P h.view
    go (inl before) = inl (inr (s.0, before, s.2))
    go (inr is) = inr (subst (λ (x : MeterSeat). P x.view) (sym is) s.2)

-- nothing was joined yet
pub none_joined : (first : MeterSeat) → IsJoinOf first [] first
none_joined first = record {
  table_is = refl;
  seats = omega arith;
  parts = λ word. omega arith;
  has_steps = λ step. own step;
  steps = λ step has. inl has;
  checks = λ check has. inl has;
}
  where
    own : (step : Step) → OneOf first [] (λ v. Contains v.steps step) → Contains first.view.steps step
    own step (inl has) = has
    own step (inr s) = let small = s.1.1 in absurd (omega arith)

-- one more seat was joined
pub one_more_joined : (first now new : MeterSeat) (others : List MeterSeat) (h : MeterSeat) → new ≡ knowing now (joined now.view h.view) → IsJoinOf first others now → IsJoinOf first (others ++ h ∷ []) new
one_more_joined first now new others h is j =
    subst (IsJoinOf first (others ++ h ∷ [])) (sym is)
    (record {
      table_is = j.table_is;
      seats = let t = total_snoc (λ (x : MeterSeat). seats_of x.view) others h in let s = j.seats in omega arith;
      parts = λ word.
          let t = total_snoc (λ (x : MeterSeat). part word x.view.steps) others h in
          let p = part-append word now.view.steps h.view.steps in
          let s = j.parts word in
          omega arith;
      has_steps = λ step one. has step (one_or_last (λ v. Contains v.steps step) first others h one);
      steps = λ step at. from step (Contains-append_cases now.view.steps h.view.steps step at);
      checks = λ check at. made check (Contains-append_cases now.view.checks h.view.checks check at);
    })
  where
    has : (step : Step) → OneOf first others (λ v. Contains v.steps step) ⊎ Contains h.view.steps step → Contains (now.view.steps ++ h.view.steps) step
    has step (inl before) = Contains-append_left now.view.steps h.view.steps step (j.has_steps step before)
    has step (inr last) = Contains-append_right now.view.steps h.view.steps step last

    from : (step : Step) → Contains now.view.steps step ⊎ Contains h.view.steps step → OneOf first (others ++ h ∷ []) (λ v. Contains v.steps step)
    from step (inl before) = one_more (λ v. Contains v.steps step) first others h (j.steps step before)
    from step (inr last) = inr (some_last (λ v. Contains v.steps step) others h last)

    made : (check : Check) → Contains now.view.checks check ⊎ Contains h.view.checks check → OneOf first (others ++ h ∷ []) (λ v. Contains v.checks check)
    made check (inl before) = one_more (λ v. Contains v.checks check) first others h (j.checks check before)
    made check (inr last) = inr (some_last (λ v. Contains v.checks check) others h last)

module _ (seats front : List MeterSeat) (last all : MeterSeat) (is : seats ≡ front ++ last ∷ []) (join : IsJoinOf last front all) where
  -- what the seats are that one of which knows it
  some_of : (P : View → Type 0) → OneOf last front P → SomeOf seats P
  some_of P (inl own) = subst (λ (l : List MeterSeat). SomeOf l P) (sym is) (some_last P front last own)
  some_of P (inr other) = subst (λ (l : List MeterSeat). SomeOf l P) (sym is) (some_more P front last other)

  one_of : (P : View → Type 0) → SomeOf seats P → OneOf last front P
  one_of P s = go (Contains-push_cases front last s.0 (subst (λ (l : List MeterSeat). Contains l s.0) is s.1))
    where
      go : Contains front s.0 ⊎ (last ≡ s.0) → OneOf last front P
      go (inl before) = inr (s.0, before, s.2)
      go (inr same) = inl (subst (λ (x : MeterSeat). P x.view) (sym same) s.2)

  -- the seat stands for all
  pub stands_for_all : AreAllSeats seats → seats_of all.view ≡ 4095
  stands_for_all number =
      let t = total_snoc (λ (x : MeterSeat). seats_of x.view) front last in
      let same = ap (total (λ (x : MeterSeat). seats_of x.view)) is in
      let s = join.seats in
      omega arith

  pub raised_among : Alone all.view → AreRaisedAmong seats
  raised_among alone port small some =
      let found = some.2 in
      let step = Loaded (map_word port) found.0 in
      let here = join.has_steps step (one_of (λ v. Contains v.steps step) (some.0, some.1, found.1)) in
      let raised = only_one (HasRaised port) all.view (alone.1.loaded 0 all.view refl (map_word port) found.0 here port small refl found.2) in
      let check = raised.0 in
      let closed = alone.1.closed 0 all.view refl check raised.1 in
      let must : must_raise check ≡ true = sym closed.1 ∙ ap is_some raised.2 in
      let fits = closed.0 in
      let stored = stored_of check.slot check.limit all.view (limit_found check must) fits.limit_was in
      record {
        check = check;
        made = some_of (λ v. Contains v.checks check) (join.checks check raised.1);
        raised = raised.2;
        small = fits.slot_small;
        stored = some_of (HasStored check.slot check.limit) (join.steps _ stored);
        above = above check fits.slot_small fits.put_within (over_limit check must);
      }
    where
      above : (check : Check) → check.slot < 1024 → check.put ≤ slice_index alone.0 (put_word check.slot) → check.limit < check.put → check.limit < total (λ h. part (put_word check.slot) h.view.steps) seats
      above check low within over =
          let word = put_word check.slot in
          let sum = alone.1.sums word (omega arith) (omega arith) in
          let t = total_snoc (λ (x : MeterSeat). part word x.view.steps) front last in
          let same = ap (total (λ (x : MeterSeat). part word x.view.steps)) is in
          let parts = join.parts word in
          omega arith
