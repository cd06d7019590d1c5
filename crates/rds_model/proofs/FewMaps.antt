-- How many maps a legal journal pulls, by its streams and by how often the map changes.
use Rattle.std.proofs.Common.{◌≡◌, ◌≢◌, inl, inr, ℕ, suc, ◌+◌, ◌<◌, ◌≤◌, ◌==◌, ◌&&◌, Bool, true, false, cond, Option, Some, None, List, [], ◌∷◌, ◌++◌, length, length-append, refl, sym, ◌∙◌, ap, subst, arith}
use Rattle.std.proofs.lemmas.Bool.{and_left, cond-false, eq-eqb, ne_eqb, cases_eq, both_ways}
use Rattle.rds_wire.specs.declared.frame.Frame.{Frame}
use Rattle.rds_model.specs.declared.entry.Entry.{Entry}
use Rattle.rds_model.specs.declared.entry.Entry.TheVariants.{Accept, Cancel, Open, Pull, Read, Shut, Bad}
use Rattle.rds_model.specs.Past.{Moment, now, before, open_stream, newest_stream}
use Rattle.rds_model.specs.Owed.{is_map, is_map_kind, last_map}
use Rattle.rds_model.specs.Sums.{opens}
use Rattle.rds_model.specs.Bounded.{map_pulls, TakesMaps}
use Rattle.rds_model.specs.Legal.{IsLegal, IsLawfulPull, IsMapPull}
use Rattle.rds_model.specs.LegalityLaws.{lawful_open, lawful_pull, lawful_shut, lawful_bad, open_is_newest}
use Rattle.rds_model.specs.FrameLaws.{kind_of_data_pull, kind_of_ack_pull}
use Rattle.rds_model.proofs.Counts.{bit, pulled}

-- the count is that of the frames that are maps
pub map_pulls_are : (past : List Entry) → map_pulls past ≡ pulled is_map past
map_pulls_are [] = refl
map_pulls_are (Pull s f ∷ past) = by_kind (is_map f) (map_pulls_are past)
  where
    by_kind : (b : Bool) → map_pulls past ≡ pulled is_map past → cond b (suc (map_pulls past)) (map_pulls past) ≡ bit b + pulled is_map past
    by_kind true older = omega arith
    by_kind false older = omega arith
map_pulls_are (_ ∷ past) = omega (arith, map_pulls_are past)

-- a pulled frame of that kind is a map
pub map_pull_of : (s : ℕ) (past : List Entry) (f : Frame) → IsLawfulPull s past f → is_map f ≡ true → IsMapPull s past f
map_pull_of s past f lawful is =
    elim lawful.owed [
      | inl pull ↦ pull
      | inr (inl pull) ↦ absurd (both_ways _ (ap is_map_kind (kind_of_data_pull s past f pull)) is)
      | inr (inr pull) ↦ absurd (both_ways _ (ap is_map_kind (kind_of_ack_pull s past f pull)) is)
    ]

-- on a stream that isn't opened yet no map was pulled
no_map_yet : (s : ℕ) (past : List Entry) → IsLegal past → newest_stream past < s → last_map s past ≡ None
no_map_yet s [] legal newer = refl
no_map_yet s (Open y ∷ past) legal newer = no_map_yet s past legal.1 (omega (arith, newer, (lawful_open y past legal).1))
no_map_yet s (Pull y f ∷ past) legal newer =
    let is = open_is_newest past legal.1 y (lawful_pull y f legal now).on in
    cond-false (y == s && is_map f) (Some f.payload) (last_map s past) (and_left (y == s) (is_map f) (ne_eqb y s (λ e. omega (arith, is, newer))))
    ∙ no_map_yet s past legal.1 newer
no_map_yet s (_ ∷ past) legal newer = no_map_yet s past legal.1 newer

module _ (versions : ℕ → List ℕ) where
  -- No more maps were pulled than streams were opened and versions gone by: up to the last map's version, where the open
  -- stream has one, and else one fewer.
  abbrev FewMaps : (newest pulls openings : ℕ) → Option (List ℕ) → Type 0
  FewMaps newest pulls openings None = suc pulls ≤ openings + newest
  FewMaps newest pulls openings (Some last) =
      (version : ℕ) × (version ≤ newest) × (last ≡ versions version) × (pulls ≤ openings + version)

  abbrev FewOn : List Entry → (newest : ℕ) → Option ℕ → Type 0
  FewOn past newest None = map_pulls past ≤ length (opens past) + newest
  FewOn past newest (Some s) = FewMaps newest (map_pulls past) (length (opens past)) (last_map s past)

  few_either : (newest pulls openings : ℕ) (o : Option (List ℕ)) → FewMaps newest pulls openings o → pulls ≤ openings + newest
  few_either newest pulls openings None few = omega arith
  few_either newest pulls openings (Some last) few = omega (arith, few.1, few.3)

  few_later : (earlier newest pulls openings : ℕ) → earlier ≤ newest → (o : Option (List ℕ)) → FewMaps earlier pulls openings o →
      FewMaps newest pulls openings o
  few_later earlier newest pulls openings below None few = omega arith
  few_later earlier newest pulls openings below (Some last) few = (few.0, omega (arith, few.1), few.2, few.3)

  -- a map that is pulled is another version than the last one
  later_version : (y : ℕ) (f : Frame) (past : List Entry) (version : ℕ) → last_map y past ≢ Some f.payload → f.payload ≡ versions version →
      (o : Option (List ℕ)) → last_map y past ≡ o → FewMaps version (map_pulls past) (length (opens past)) o →
      suc (map_pulls past) ≤ length (opens past) + version
  later_version y f past version new is None none few = few
  later_version y f past version new is (Some last) some few =
      elim (cases_eq few.0 version) [
        | inl same ↦ absurd (new (some ∙ ap (λ (m : List ℕ). Some m) (few.2 ∙ ap versions same ∙ sym is)))
        | inr other ↦ omega (arith, few.1, few.3)
      ]

  pull_step : (y : ℕ) (f : Frame) (past : List Entry) (version newest : ℕ) → IsLawfulPull y past f → version ≤ newest →
      (is_map f ≡ true → f.payload ≡ versions version) → FewOn past version (Some y) → FewOn (Pull y f ∷ past) newest (Some y)
  pull_step y f past version newest lawful below is older =
      subst (λ (b : Bool). FewMaps newest (map_pulls (Pull y f ∷ past)) (length (opens past)) (cond (b && is_map f) (Some f.payload) (last_map y past)))
      (sym (eq-eqb y y refl)) (by_kind (is_map f) refl)
    where
      by_kind : (b : Bool) → is_map f ≡ b →
          FewMaps newest (cond b (suc (map_pulls past)) (map_pulls past)) (length (opens past)) (cond b (Some f.payload) (last_map y past))
      by_kind true map =
          (version, below, is map, later_version y f past version (map_pull_of y past f lawful map).new (is map) (last_map y past) refl older)
      by_kind false other = few_later version newest (map_pulls past) (length (opens past)) below (last_map y past) older

  maps_are_few : (past : List Entry) → IsLegal past → (newest : ℕ) → TakesMaps versions past newest → (o : Option ℕ) → open_stream past ≡ o →
      FewOn past newest o
  maps_are_few [] legal newest takes None is = omega arith
  maps_are_few [] legal newest takes (Some s) is = cc
  maps_are_few (Open y ∷ past) legal newest takes None is = cc
  maps_are_few (Open y ∷ past) legal newest takes (Some s) is =
      let lawful = lawful_open y past legal in
      let same : y ≡ s = cc in
      let older : map_pulls past ≤ length (opens past) + newest = maps_are_few past legal.1 newest takes None lawful.0 in
      subst (FewMaps newest (map_pulls past) (length (opens past ++ y ∷ []))) (sym (no_map_yet s past legal.1 (omega (arith, lawful.1, same))))
      (omega (arith, older, length-append (opens past) (y ∷ [])))
  maps_are_few (Shut y ∷ past) legal newest takes None is =
      few_either newest (map_pulls past) (length (opens past)) (last_map y past)
      (maps_are_few past legal.1 newest takes (Some y) (lawful_shut y past legal))
  maps_are_few (Shut y ∷ past) legal newest takes (Some s) is = cc
  maps_are_few (Bad y h found ∷ past) legal newest takes None is =
      few_either newest (map_pulls past) (length (opens past)) (last_map y past)
      (maps_are_few past legal.1 newest takes (Some y) (lawful_bad y h found legal now).on)
  maps_are_few (Bad y h found ∷ past) legal newest takes (Some s) is = cc
  maps_are_few (Pull y f ∷ past) legal newest takes None is = let lawful = lawful_pull y f legal now in let on = lawful.on in cc
  maps_are_few (Pull y f ∷ past) legal newest takes (Some s) is =
      let lawful = lawful_pull y f legal now in
      let on = lawful.on in
      let same : y ≡ s = cc in
      subst (λ (x : ℕ). FewOn (Pull y f ∷ past) newest (Some x)) same
      (pull_step y f past takes.0 newest lawful takes.1 takes.2 (maps_are_few past legal.1 takes.0 takes.3 (Some y) on))
  maps_are_few (Accept slot sport dport payload ∷ past) legal newest takes o is = maps_are_few past legal.1 newest takes o is
  maps_are_few (Cancel slot target ∷ past) legal newest takes o is = maps_are_few past legal.1 newest takes o is
  maps_are_few (Read y f outcome ∷ past) legal newest takes o is = maps_are_few past legal.1 newest takes o is

  pub few_versions : (past : List Entry) → IsLegal past → (newest : ℕ) → TakesMaps versions past newest →
      map_pulls past ≤ length (opens past) + newest
  few_versions past legal newest takes = either (open_stream past) (maps_are_few past legal newest takes (open_stream past) refl)
    where
      either : (o : Option ℕ) → FewOn past newest o → map_pulls past ≤ length (opens past) + newest
      either None few = few
      either (Some s) few = few_either newest (map_pulls past) (length (opens past)) (last_map s past) few

-- one map is a map that never changes
takes_one : (map : List ℕ) (past : List Entry) →
    ((s : ℕ) (f : Frame) (p : List Entry) → Moment (Pull s f ∷ p) past → is_map f ≡ true → f.payload ≡ map) → TakesMaps (λ version. map) past 0
takes_one map [] one = tt
takes_one map (Pull s f ∷ past) one = (0, omega arith, one s f past now, takes_one map past (λ y g p m. one y g p (before m)))
takes_one map (_ ∷ past) one = takes_one map past (λ y g p m. one y g p (before m))

pub few_of_one : (map : List ℕ) (past : List Entry) → IsLegal past →
    ((s : ℕ) (f : Frame) (p : List Entry) → Moment (Pull s f ∷ p) past → is_map f ≡ true → f.payload ≡ map) → map_pulls past ≤ length (opens past)
few_of_one map past legal one = omega (arith, few_versions (λ version. map) past legal 0 (takes_one map past one))
