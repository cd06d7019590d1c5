-- Laws, each proved: proofs in other crates use them. Nothing here has to be believed.
-- What a change of the end at one place leaves as it was.
use Rattle.std.proofs.Common.{◌≡◌, ◌≢◌, ◌⊎◌, inl, inr, ℕ, ◌==◌, Bool, true, false, List, length, get_or, Some, slice_get, refl, sym, ap, subst, ◌∙◌, arith}
use Rattle.std.proofs.lemmas.Bool.{eqb-true, eqb-false}
use Rattle.std.proofs.lemmas.List.{length-set, length-map}
use Rattle.std.proofs.lemmas.Option.{same_Some, slice_get_within, slice_get-get_or}
use Rattle.rds_link.specs.Ends.{Means, Remains}
use Rattle.rds_line_channel.specs.Streams.{EndAt, numbers}
use Rattle.rds_line_channel.specs.StreamChanges.{ChangesAt}
use Rattle.rds_line_channel.specs.Meeting.{AtEach, StayPaired}
use Rattle.rds_line_channel.specs.PlaceLaws.{at_set, beside_set, map_set}

-- lists with the same numbers have the same length
pub same_length : {E : Type 0} (xs ys : List (ℕ × E)) → numbers xs ≡ numbers ys → length xs ≡ length ys
same_length xs ys same = sym (length-map xs (λ stream. stream.0)) ∙ (ap length same ∙ length-map ys (λ stream. stream.0))

-- what holds at each place holds in two steps
pub each_through : {E : Type 0} {First Second Both : E → E → Type 0} (xs ys zs : List (ℕ × E)) → ((x y z : E) → First x y → Second y z → Both x z) → length ys ≡ length xs → AtEach First xs ys → AtEach Second ys zs → AtEach Both xs zs
each_through xs ys zs joined count first second = record {
  at = λ place x z stood stands.
      let small = slice_get_within xs place x stood in
      let y = get_or ys place x in
      let there = slice_get-get_or ys place x (omega arith) in
      joined x.1 y.1 z.1 (first.at place x y stood there) (second.at place y z there stands);
}

-- ends that each meet whom they met before
pub stay_paired : {E : Type 0} (m : Means E) (old new : List (ℕ × E)) → length new ≡ length old → AtEach (Remains m) old new → StayPaired m old new
stay_paired m old new count each = record {
  forth = λ others pairs. record {
    at = λ place x y stands other.
        let small = slice_get_within new place x stands in
        let was = get_or old place x in
        let stood = slice_get-get_or old place x (omega arith) in
        (each.at place was x stood stands y.1).0 (pairs.at place was y stood other);
  };
  back = λ others pairs. record {
    at = λ place x y other stands.
        let small = slice_get_within new place y stands in
        let was = get_or old place y in
        let stood = slice_get-get_or old place y (omega arith) in
        (each.at place was y stood stands x.1).1 (pairs.at place x was other stood);
  };
}

module _ {E : Type 0} {Way : E → E → Type 0} {place : ℕ} {old new : List (ℕ × E)} (change : ChangesAt Way place old new) where
  -- the end that stands there now
  pub changed_here : slice_get new place ≡ Some (change.number, change.end_after)
  changed_here = ap (λ l. slice_get l place) change.stands ∙ at_set old place (change.number, change.end_after) (slice_get_within old place (change.number, change.end_before) change.stood)

  -- any other stream
  pub changed_beside : (other : ℕ) → other ≢ place → slice_get new other ≡ slice_get old other
  changed_beside other apart = ap (λ l. slice_get l other) change.stands ∙ beside_set old place other (change.number, change.end_after) apart

  -- a stream that stands in the list now: the one whose end changed, or one that stood there before
  pub changed_cases : (other : ℕ) (stream : ℕ × E) → slice_get new other ≡ Some stream → ((other ≡ place) × (stream ≡ (change.number, change.end_after))) ⊎ ((other ≢ place) × (slice_get old other ≡ Some stream))
  changed_cases other stream stands = go (other == place) refl
    where
      go : (b : Bool) → (other == place) ≡ b → ((other ≡ place) × (stream ≡ (change.number, change.end_after))) ⊎ ((other ≢ place) × (slice_get old other ≡ Some stream))
      go true e =
          let here : other ≡ place = eqb-true other place e in
          inl (here, same_Some stream (change.number, change.end_after) (sym stands ∙ (ap (slice_get new) here ∙ changed_here)))
      go false e =
          let apart = eqb-false other place e in
          inr (apart, sym (changed_beside other apart) ∙ stands)

  pub changed_numbers : numbers new ≡ numbers old
  changed_numbers = ap numbers change.stands ∙ map_set (λ stream. stream.0) old place (change.number, change.end_before) (change.number, change.end_after) change.stood refl

  pub changed_length : length new ≡ length old
  changed_length = ap length change.stands ∙ length-set old place (change.number, change.end_after)

  -- what holds of the end there before the change gives what holds of it afterwards
  pub changed_end : {Was Is : E → Type 0} → ((before after : E) → Way before after → Was before → Is after) → EndAt Was place old → EndAt Is place new
  changed_end {Was} {Is} becomes was = record {
    at = λ stream stands.
        let is = same_Some (change.number, change.end_after) stream (sym changed_here ∙ stands) in
        subst (λ (x : ℕ × E). Is x.1) is (becomes change.end_before change.end_after change.way (was.at (change.number, change.end_before) change.stood));
  }

  -- what holds between an end and itself, and between the end before the change and after it, holds of each end
  pub changed_each : (Holds : E → E → Type 0) → ((e : E) → Holds e e) → Holds change.end_before change.end_after → AtEach Holds old new
  changed_each Holds same there = record { at = λ other x y stood stands. go other x y stood stands (other == place) refl }
    where
      go : (other : ℕ) (x y : ℕ × E) → slice_get old other ≡ Some x → slice_get new other ≡ Some y → (b : Bool) → (other == place) ≡ b → Holds x.1 y.1
      go other x y stood stands true e =
          let here : other ≡ place = eqb-true other place e in
          let before_is : (change.number, change.end_before) ≡ x = same_Some (change.number, change.end_before) x (sym change.stood ∙ (ap (slice_get old) (sym here) ∙ stood)) in
          let after_is : (change.number, change.end_after) ≡ y = same_Some (change.number, change.end_after) y (sym changed_here ∙ (ap (slice_get new) (sym here) ∙ stands)) in
          subst (λ a. Holds a y.1) (ap (λ s. s.1) before_is) (subst (λ b. Holds change.end_before b) (ap (λ s. s.1) after_is) there)
      go other x y stood stands false e =
          let is : x ≡ y = same_Some x y (sym stood ∙ (sym (changed_beside other (eqb-false other place e)) ∙ stands)) in
          subst (λ (s : ℕ × E). Holds x.1 s.1) is (same x.1)

  pub changed_paired : (m : Means E) → Remains m change.end_before change.end_after → StayPaired m old new
  changed_paired m remains = stay_paired m old new changed_length (changed_each (Remains m) (λ e other. (λ met. met, λ met. met)) remains)
