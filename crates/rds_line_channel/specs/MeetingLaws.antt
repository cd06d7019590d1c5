-- Laws, each proved: proofs in other crates use them. Nothing here has to be believed.
-- What a meeting of the streams of two lines says of the ends of one of them.
use Rattle.std.proofs.Common.{◌≡◌, ℕ, List, length, get_or, sym, arith, true, false, [], ◌∷◌, ◌++◌, refl, ap, ◌∙◌}
use Rattle.std.proofs.lemmas.Option.{slice_get-get_or, slice_get_within}
use Rattle.std.proofs.lemmas.List.{append-nil}
use Rattle.rds_link.specs.declared.end.Got.TheVariants as got
use Rattle.rds_link.specs.Ends.{Means, HasAll}
use Rattle.rds_line_channel.specs.StreamChanges.{Receives}
use Rattle.rds_line_channel.specs.ChangeLaws.{stay_paired}
use Rattle.rds_line_channel.specs.Meeting.{AtEach, StayPaired, GotBeginning, Meets, HaveMet, AreMet}

nil_front : (front back : List ℕ) → front ++ back ≡ [] → front ≡ []
nil_front [] back e = refl
nil_front (x ∷ front) back e = absurd (cc)

module _ {E : Type 0} (m : Means E) where
  -- the end met some other end
  abbrev pub MeetsSome : E → E → Type 0
  MeetsSome old new = (other : E) × Meets m old new other

  -- an end that has all that another sent got a beginning of it
  pub got_beginning : (a b : E) → HasAll m a b → GotBeginning m a b
  got_beginning a b all tells = (m.known a, sym (all tells))

  module _ (one one_met other other_met : List (ℕ × E)) (met : AreMet m one one_met other other_met) where
    -- the first line's ends
    pub met_first : length other ≡ length one → length other_met ≡ length other → AtEach (MeetsSome) one one_met
    met_first count met_count = record {
      at = λ place a b stood stands.
          let small = slice_get_within one place a stood in
          let c = get_or other place a in
          let d = get_or other_met place a in
          let there = met.at place a b c d stood stands (slice_get-get_or other place a (omega arith)) (slice_get-get_or other_met place a (omega arith)) in
          (c.1, there.first);
    }

    -- the second line's ends
    pub met_second : length other ≡ length one → length one_met ≡ length one → AtEach (MeetsSome) other other_met
    met_second count met_count = record {
      at = λ place c d stood stands.
          let small = slice_get_within other place c stood in
          let a = get_or one place c in
          let b = get_or one_met place c in
          let there = met.at place a b c d (slice_get-get_or one place c (omega arith)) (slice_get-get_or one_met place c (omega arith)) stood stands in
          (a.1, there.second);
    }

    module _ (count : length other ≡ length one) (one_count : length one_met ≡ length one) (other_count : length other_met ≡ length other) where
      -- the two ends at each place
      pub met_ends : (Holds : E → E → Type 0) → ((a b c d : E) → HaveMet m a b c d → Holds b d) → AtEach Holds one_met other_met
      met_ends Holds each = record {
        at = λ place b d one_stands other_stands.
            let small = slice_get_within one_met place b one_stands in
            let a = get_or one place b in
            let c = get_or other place b in
            each a.1 b.1 c.1 d.1 (met.at place a b c d (slice_get-get_or one place b (omega arith)) one_stands (slice_get-get_or other place b (omega arith)) other_stands);
      }

      -- what the first line's ends got
      pub met_there : AtEach (GotBeginning m) one_met other_met
      met_there = met_ends (GotBeginning m) (λ a b c d have. got_beginning b d have.there)

      -- what the second line's ends got
      pub met_back : AtEach (GotBeginning m) other_met one_met
      met_back = record { at = λ place d b other_stands one_stands. (met_ends (λ x y. GotBeginning m y x) (λ p q r s have. got_beginning s q have.back)).at place b d one_stands other_stands }

  -- ends that met others are paired as they were
  pub met_stay : (old new : List (ℕ × E)) → length new ≡ length old → AtEach (MeetsSome) old new → StayPaired m old new
  met_stay old new count met = stay_paired m old new count (record { at = λ place x y stood stands. (met.at place x y stood stands).1.meets })

  -- once two ends have met, one answers `Nothing` only where it got all that the other sent and the other hasn't shut
  pub nothing_is_all : (a a_met b b_met next : E) → Meets m a a_met b → Meets m b b_met a → HasAll m a_met b_met → Receives m got.Nothing [] a_met next → (m.tells ≡ true → m.got a_met ≡ m.sent b_met) × ((m.stand b_met).is_shut ≡ false)
  nothing_is_all a a_met b b_met next one other all did = (
    λ tells.
        let empty = nil_front (m.known a_met) (did.known tells).0 ((did.known tells).1 ∙ did.nothing refl tells) in
        sym (append-nil (m.got a_met)) ∙ (ap (λ l. m.got a_met ++ l) (sym empty) ∙ all tells),
    ap (λ s. s.is_shut) other.learns.0 ∙ (sym (ap (λ s. s.other_shut) one.learns.0) ∙ (did.goes (λ e. cc)).1),
  )
