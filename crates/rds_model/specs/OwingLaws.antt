-- Laws, each proved: proofs in other crates use them. Nothing here has to be believed.
-- The frame that is owed may be pulled, and no other may but another map.
use Rattle.std.proofs.Common.{◌≡◌, ◌≢◌, inl, inr, ℕ, ◌||◌, true, false, Option, Some, None, IsSome, is_some, MatchOption, List, [], ◌∷◌, length, refl, sym, ◌∙◌, ap, subst}
use Rattle.std.specs.Cmp.Lexicographic.{same_text, other_text}
use Rattle.std.proofs.lemmas.Bool.{cases_Bool, both_ways, cond-true, cond-false, false_from_ne_true, true_from_ne_false, false≢true}
use Rattle.rds_wire.specs.declared.frame.Frame.{Frame}
use Rattle.rds_wire.specs.declared.kind.TheConstants.{MAP_LENGTH}
use Rattle.rds_wire.specs.Bytes.{IsBytes}
use Rattle.rds_model.specs.declared.entry.Entry.{Entry}
use Rattle.rds_model.specs.Past.{Accepted, datagram, open_stream}
use Rattle.rds_model.specs.Alive.{due_numbers}
use Rattle.rds_model.specs.Owed.{last_map, is_asked, must_ask, map_frame, ack_frame, data_frame, is_last_map, data_owed, owed_after_map, owed_frame}
use Rattle.rds_model.specs.Legal.{IsLegal, IsLawfulPull, IsMapPull, IsDataPull, pong_to, Continues, IsLawful, IsPong}
use Rattle.rds_model.specs.NumberLaws.{alive_parts}
use Rattle.rds_model.specs.DueLaws.{IsLeastDue, least_due, due_none, due_of_least}
use Rattle.rds_model.specs.PullLaws.{map_is_lawful, data_is_lawful, ack_is_lawful}

-- the map that was pulled last, or another
last_is : (o : Option (List ℕ)) (map : List ℕ) → is_last_map o map ≡ true → o ≡ Some map
last_is None map is = absurd (false≢true is)
last_is (Some last) map is = ap (λ (m : List ℕ). Some m) (same_text last map (sym is))

last_is_not : (o : Option (List ℕ)) (map : List ℕ) → is_last_map o map ≡ false → o ≢ Some map
last_is_not None map is same = cc
last_is_not (Some last) map is same = let same_map : last ≡ map = cc in other_text last map (sym is) same_map

last_of_same : (o : Option (List ℕ)) (map : List ℕ) → o ≡ Some map → is_last_map o map ≡ true
last_of_same o map same = true_from_ne_false (is_last_map o map) (λ other. last_is_not o map other same)

last_of_other : (o : Option (List ℕ)) (map : List ℕ) → o ≢ Some map → is_last_map o map ≡ false
last_of_other o map other = false_from_ne_true (is_last_map o map) (λ same. other (last_is o map same))

some_of : (o : Option (List ℕ)) (map : List ℕ) → o ≡ Some map → IsSome o
some_of None map is = cc
some_of (Some last) map is = refl

-- what is owed behind the map that was pulled last
behind_map : (s : ℕ) (past : List Entry) (f : Frame) → IsLegal past → open_stream past ≡ Some s → IsSome (last_map s past) →
    (numbers : List ℕ) → due_numbers s past ≡ numbers → owed_after_map s past numbers ≡ Some f → IsLawfulPull s past f
behind_map s past f legal on behind [] none is =
    elim (cases_Bool (is_asked s past || must_ask s past)) [
      | inl asked ↦
          let given : Some (ack_frame past (must_ask s past)) ≡ Some f = sym (cond-true _ (Some (ack_frame past (must_ask s past))) None asked) ∙ is in
          let same : ack_frame past (must_ask s past) ≡ f = cc in
          subst (IsLawfulPull s past) same (ack_is_lawful s past legal on behind none asked)
      | inr unasked ↦
          let given : None ≡ Some f = sym (cond-false _ (Some (ack_frame past (must_ask s past))) None unasked) ∙ is in
          cc
    ]
behind_map s past f legal on behind (n ∷ rest) some is = the_data (datagram past n) refl is
  where
    the_data : (o : Option Accepted) → datagram past n ≡ o → data_owed s past n o ≡ Some f → IsLawfulPull s past f
    the_data None unknown is = cc
    the_data (Some d) known is =
        let same : data_frame s past n d ≡ f = cc in
        subst (IsLawfulPull s past) same (data_is_lawful s past n d legal on behind known (least_due s past n rest some))

-- the frame that is owed for a map may be pulled
pub owed_is_lawful : (s : ℕ) (past : List Entry) (map : List ℕ) (f : Frame) → IsLegal past → open_stream past ≡ Some s → length map ≡ MAP_LENGTH →
    IsBytes map → owed_frame s past map ≡ Some f → IsLawfulPull s past f
owed_is_lawful s past map f legal on long bytes is =
    elim (cases_Bool (is_last_map (last_map s past) map)) [
      | inl last ↦
          let same = last_is (last_map s past) map last in
          behind_map s past f legal on (some_of (last_map s past) map same) (due_numbers s past) refl
          (sym (cond-true _ (owed_after_map s past (due_numbers s past)) (Some (map_frame past map)) last) ∙ is)
      | inr new ↦
          let given : Some (map_frame past map) ≡ Some f = sym (cond-false _ (owed_after_map s past (due_numbers s past)) (Some (map_frame past map)) new) ∙ is in
          let same : map_frame past map ≡ f = cc in
          subst (IsLawfulPull s past) same (map_is_lawful s past map legal on long bytes (last_is_not (last_map s past) map new))
    ]

-- where no pong is owed, a lawful entry may stand
pub settled_continues : (past : List Entry) (e : Entry) → pong_to past ≡ None → IsLawful past e → Continues past e
settled_continues past e settled lawful =
    subst (λ (o : Option ℕ). MatchOption o (IsLawful past e) (λ port. IsPong past port e)) (sym settled) lawful

-- what it means that nothing is owed for a map
pub record IsIdle (s : ℕ) (past : List Entry) (map : List ℕ) : Type 0 where
  pub last : last_map s past ≡ Some map
  pub none_due : due_numbers s past ≡ []
  pub unasked : (is_asked s past || must_ask s past) ≡ false

idle_behind : (s : ℕ) (past : List Entry) (numbers : List ℕ) → due_numbers s past ≡ numbers → owed_after_map s past numbers ≡ None →
    (due_numbers s past ≡ []) × ((is_asked s past || must_ask s past) ≡ false)
idle_behind s past [] none nothing = (
  none,
  false_from_ne_true (is_asked s past || must_ask s past) (λ asked.
      let given : Some (ack_frame past (must_ask s past)) ≡ None = sym (cond-true _ (Some (ack_frame past (must_ask s past))) None asked) ∙ nothing in
      cc),
)
idle_behind s past (n ∷ rest) some nothing =
    let alive = alive_parts past n (least_due s past n rest some).alive in
    absurd (the_data (datagram past n) alive.known nothing)
  where
    the_data : (o : Option Accepted) → is_some o ≡ true → data_owed s past n o ≡ None → ⊥
    the_data None known is = cc
    the_data (Some d) known is = cc

pub idle : (s : ℕ) (past : List Entry) (map : List ℕ) → owed_frame s past map ≡ None → IsIdle s past map
idle s past map nothing =
    elim (cases_Bool (is_last_map (last_map s past) map)) [
      | inl last ↦
          let both =
          idle_behind s past (due_numbers s past) refl (sym (cond-true _ (owed_after_map s past (due_numbers s past)) (Some (map_frame past map)) last) ∙ nothing) in
          record { last = last_is (last_map s past) map last; none_due = both.0; unasked = both.1 }
      | inr new ↦
          let given : Some (map_frame past map) ≡ None = sym (cond-false _ (owed_after_map s past (due_numbers s past)) (Some (map_frame past map)) new) ∙ nothing in
          cc
    ]

least_of_pull : (s : ℕ) (past : List Entry) (f : Frame) (pull : IsDataPull s past f) → IsLeastDue s past pull.n
least_of_pull s past f pull = record { alive = pull.alive; once = pull.once; least = pull.least }

-- where nothing is owed for a map, no pull is lawful but that of another map
pub only_another_map : (s : ℕ) (past : List Entry) (map : List ℕ) (f : Frame) → owed_frame s past map ≡ None → IsLawfulPull s past f →
    IsMapPull s past f × (f.payload ≢ map)
only_another_map s past map f nothing lawful =
    let is = idle s past map nothing in
    elim lawful.owed [
      | inl pull ↦ (pull, λ same. pull.new (is.last ∙ ap (λ (m : List ℕ). Some m) (sym same)))
      | inr (inl pull) ↦
          let some = due_of_least s past pull.n (least_of_pull s past f pull) in
          let clash : [] ≡ pull.n ∷ some.0 = sym is.none_due ∙ some.1 in
          absurd (cc)
      | inr (inr pull) ↦ absurd (both_ways _ is.unasked pull.asked)
    ]

behind_last : (s : ℕ) (past : List Entry) (f : Frame) → IsSome (last_map s past) → owed_after_map s past (due_numbers s past) ≡ Some f →
    (map : List ℕ) × (owed_frame s past map ≡ Some f)
behind_last s past f behind is = last (last_map s past) refl behind
  where
    last : (o : Option (List ℕ)) → last_map s past ≡ o → IsSome o → (map : List ℕ) × (owed_frame s past map ≡ Some f)
    last None none some = cc
    last (Some map) is_map some =
        (map, cond-true _ (owed_after_map s past (due_numbers s past)) (Some (map_frame past map)) (last_of_same (last_map s past) map is_map) ∙ is)

-- each lawful pull is owed for some map
pub lawful_is_owed : (s : ℕ) (past : List Entry) (f : Frame) → IsLawfulPull s past f → (map : List ℕ) × (owed_frame s past map ≡ Some f)
lawful_is_owed s past f lawful =
    elim lawful.owed [
      | inl pull ↦ (
        f.payload,
        cond-false _ (owed_after_map s past (due_numbers s past)) (Some (map_frame past f.payload)) (last_of_other (last_map s past) f.payload pull.new)
            ∙ ap (λ (g : Frame). Some g) (sym pull.is),
      )
      | inr (inl pull) ↦
          let some = due_of_least s past pull.n (least_of_pull s past f pull) in
          behind_last s past f pull.behind_a_map
          (ap (owed_after_map s past) some.1 ∙ ap (data_owed s past pull.n) pull.known ∙ ap (λ (g : Frame). Some g) (sym pull.is))
      | inr (inr pull) ↦
          behind_last s past f pull.behind_a_map
          (ap (owed_after_map s past) (due_none s past pull.all_pulled)
          ∙ cond-true _ (Some (ack_frame past (must_ask s past))) None pull.asked
          ∙ ap (λ (g : Frame). Some g) (sym pull.is))
    ]

-- what is owed for the map that was pulled last
pub owed_behind_last : (s : ℕ) (past : List Entry) (map : List ℕ) → last_map s past ≡ Some map →
    owed_frame s past map ≡ owed_after_map s past (due_numbers s past)
owed_behind_last s past map is =
    cond-true _ (owed_after_map s past (due_numbers s past)) (Some (map_frame past map)) (last_of_same (last_map s past) map is)
