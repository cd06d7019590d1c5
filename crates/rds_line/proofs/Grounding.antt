-- Which loads stand behind the ports of the maps that were pulled, where the journal or the seat has more.
use Rattle.std.proofs.Common.{◌≡◌, ◌≢◌, ◌⊎◌, inl, inr, ℕ, ◌/◌, ◌<◌, ◌&&◌, if◌then◌else◌, Bool, true, Option, Some, None, List, [], ◌∷◌, eq-eqb, refl, sym, ap, subst, ◌∙◌, arith}
use Rattle.std.specs.List.{Contains}
use Rattle.std.proofs.lemmas.Bool.{cases_eq, eqb-true, ne_eqb}
use Rattle.std.proofs.lemmas.List.Elements.{Contains-append_left, Contains-append_right}
use Rattle.std.proofs.lemmas.Option.{same_Some}
use Rattle.rds_wire.specs.declared.frame.Frame.{Frame}
use Rattle.rds_cong.specs.Map.{has_port, word_at}
use Rattle.rds_model.specs.declared.entry.Entry.{Entry}
use Rattle.rds_model.specs.declared.entry.Entry.TheVariants.{Pull}
use Rattle.rds_model.specs.Honest.{Begins}
use Rattle.rds_model.specs.Owed.{is_map, last_map}
use Rattle.rds_meter.specs.declared.view.Step.{Step}
use Rattle.rds_meter.specs.declared.view.Step.TheVariants.{Added, Stored, Loaded, Raised, Lowered, Bumped}
use Rattle.rds_meter.specs.Grounds.{HasFoundSet}
use Rattle.rds_line_parts.specs.Own.{Own, IsAsRead, found_of, last_found, newer, own_word}
use Rattle.rds_line.specs.Seats.{AreFoundSet}
use Rattle.rds_line.specs.Steps.{HasBits}
use Rattle.rds_line.proofs.PortLooks.{first_or_later}

-- nothing was pulled
pub found_none : (steps : List Step) → AreFoundSet [] steps
found_none steps port small has = let inside = has.2.1 in absurd (omega arith)

-- the seat has more steps
pub found_still : (past : List Entry) (steps after : List Step) → Begins steps after → AreFoundSet past steps → AreFoundSet past after
found_still past steps after more was port small has =
    let found = was port small has in
    subst (HasFoundSet port) (sym more.1) (found.0, Contains-append_left steps more.0 _ found.1, found.2)

module _ (past : List Entry) (steps : List Step) where
  -- an entry that is no pull
  pub found_beside : (e : Entry) → ((stream : ℕ) (frame : Frame) → e ≢ Pull stream frame) → AreFoundSet past steps → AreFoundSet (e ∷ past) steps
  found_beside e other was port small has = go (first_or_later e past (Pull has.0 has.1) has.2)
    where
      go : (e ≡ Pull has.0 has.1) ⊎ Contains past (Pull has.0 has.1) → HasFoundSet port steps
      go (inl is) = absurd (other has.0 has.1 is)
      go (inr before) = was port small (has.0, has.1, before, has.3, has.4)

  abbrev the_frame : Frame → Entry → Frame
  the_frame f (Pull stream frame) = frame
  the_frame f _ = f

  -- a frame that was pulled: if it is a map, each of its ports was found set
  pub found_pulled : (s : ℕ) (f : Frame) → (is_map f ≡ true → (port : ℕ) → port < 65536 → has_port f.payload port ≡ true → HasFoundSet port steps)
      → AreFoundSet past steps → AreFoundSet (Pull s f ∷ past) steps
  found_pulled s f own was port small has = go (first_or_later (Pull s f) past (Pull has.0 has.1) has.2)
    where
      go : (Pull s f ≡ Pull has.0 has.1) ⊎ Contains past (Pull has.0 has.1) → HasFoundSet port steps
      go (inl is) =
          let same : f ≡ has.1 = ap (the_frame f) is in
          own (ap is_map same ∙ has.3) port small (ap (λ (g : Frame). has_port g.payload port) same ∙ has.4)
      go (inr before) = was port small (has.0, has.1, before, has.3, has.4)

-- what a step found of a word it loaded
loaded_step : (w found : ℕ) (step : Step) → found_of w step ≡ Some found → step ≡ Loaded w found
loaded_step w found (Loaded word n) is = go (cases_eq word w)
  where
    go : (word ≡ w) ⊎ (word ≢ w) → Loaded word n ≡ Loaded w found
    go (inl same) =
        let value : n ≡ found = same_Some n found (sym (ap (λ (b : Bool). if b then Some n else None) (eq-eqb word w same)) ∙ is) in
        ap (λ x. Loaded x n) same ∙ ap (λ x. Loaded w x) value
    go (inr other) =
        let none : None ≡ Some found = sym (ap (λ (b : Bool). if b then Some n else None) (ne_eqb word w other)) ∙ is in
        absurd (cc)
loaded_step w found (Added word amount after) is = absurd (cc)
loaded_step w found (Stored word limit) is = absurd (cc)
loaded_step w found (Raised port) is = absurd (cc)
loaded_step w found (Lowered port) is = absurd (cc)
loaded_step w found (Bumped after) is = absurd (cc)

-- the last load of a word was made
pub last_was_made : (w found : ℕ) (steps : List Step) → last_found w steps ≡ Some found → Contains steps (Loaded w found)
last_was_made w found [] is = absurd (cc)
last_was_made w found (step ∷ steps) is = go (last_found w steps) refl (last_was_made w found steps)
  where
    go : (o : Option ℕ) → last_found w steps ≡ o → (last_found w steps ≡ Some found → Contains steps (Loaded w found)) → Contains (step ∷ steps) (Loaded w found)
    go None none earlier =
        let here = loaded_step w found step (sym (ap (λ f. newer f (found_of w step)) none) ∙ is) in
        subst (Contains (step ∷ steps)) here (0, omega arith, refl)
    go (Some n) some earlier =
        let same = sym (ap (λ f. newer f (found_of w step)) some) ∙ is in
        Contains-append_right (step ∷ []) steps (Loaded w found) (earlier (some ∙ same))

-- each port of the own map was found set, once it was read
pub own_found : (own : Own) (steps : List Step) (number : ℕ) → IsAsRead own steps → own.change ≡ Some number → HasBits own.map
    → (port : ℕ) → port < 65536 → has_port own.map port ≡ true → HasFoundSet port steps
own_found own steps number read change bits port small has =
    let word = word_at own.map (port / 64) in
    let made = last_was_made (own_word (port / 64)) word steps (read number change (port / 64) (omega arith)) in
    (word, made, eqb-true _ 1 (sym (bits port small) ∙ has))

-- a map that was pulled is the one that was pulled last
pub pulled_payload : (s : ℕ) (f : Frame) (past : List Entry) (map : List ℕ) → is_map f ≡ true → last_map s (Pull s f ∷ past) ≡ Some map → f.payload ≡ map
pulled_payload s f past map is last =
    let here : last_map s (Pull s f ∷ past) ≡ Some f.payload =
    ap (λ (b : Bool). if b && is_map f then Some f.payload else last_map s past) (eq-eqb s s refl) ∙ ap (λ (b : Bool). if b then Some f.payload else last_map s past) is in
    same_Some f.payload map (sym here ∙ last)
