-- The meeting of the ends at each place, one after another.
use Rattle.std.proofs.Common.{◌≡◌, ℕ, ◌+◌, ◌<◌, ◌≤◌, ◌==◌, Bool, true, false, List, length, Some, slice_get, refl, sym, ap, subst, ◌∙◌, arith}
use Rattle.std.proofs.lemmas.Bool.{eqb-true, eqb-false}
use Rattle.std.proofs.lemmas.Option.{same_Some, slice_get_within}
use Rattle.rds_link.specs.Ends.{Means}
use Rattle.rds_line_channel.specs.Streams.{numbers}
use Rattle.rds_line_channel.specs.Meeting.{AtEach, HaveMet, AreMet, MeetAt}
use Rattle.rds_line_channel.specs.ChangeLaws.{changed_here, changed_beside, changed_numbers}

-- the ends below this place have met, and those from it on are as they were
pub record Partly {E : Type 0} (m : Means E) (upto : ℕ) (one one_now other other_now : List (ℕ × E)) : Type 0 where
  pub one_numbers : numbers one_now ≡ numbers one
  pub other_numbers : numbers other_now ≡ numbers other
  pub pairs : AtEach m.meets one_now other_now
  pub done : (place : ℕ) (a b c d : ℕ × E) → place < upto → slice_get one place ≡ Some a → slice_get one_now place ≡ Some b → slice_get other place ≡ Some c → slice_get other_now place ≡ Some d → HaveMet m a.1 b.1 c.1 d.1
  pub one_left : (place : ℕ) → upto ≤ place → slice_get one_now place ≡ slice_get one place
  pub other_left : (place : ℕ) → upto ≤ place → slice_get other_now place ≡ slice_get other place

same_stream : {X : Type 0} (list : List X) (at place : ℕ) (x y : X) → slice_get list at ≡ Some x → place ≡ at → slice_get list place ≡ Some y → x ≡ y
same_stream list at place x y stood here stands = same_Some x y (sym stood ∙ (ap (slice_get list) (sym here) ∙ stands))

module _ {E : Type 0} (m : Means E) where
  pub none_met : (one other : List (ℕ × E)) → AtEach m.meets one other → Partly m 0 one one other other
  none_met one other pairs = record {
    one_numbers = refl;
    other_numbers = refl;
    pairs = pairs;
    done = λ place a b c d below. absurd (omega arith);
    one_left = λ place past. refl;
    other_left = λ place past. refl;
  }

  pub all_met : (upto : ℕ) (one one_now other other_now : List (ℕ × E)) → Partly m upto one one_now other other_now → length one ≤ upto → AreMet m one one_now other other_now
  all_met upto one one_now other other_now partly all = record {
    at = λ place a b c d sa sb sc sd.
        let small = slice_get_within one place a sa in
        partly.done place a b c d (omega arith) sa sb sc sd;
  }

  module _ (upto : ℕ) (one one_now one_met other other_now other_met : List (ℕ × E)) (partly : Partly m upto one one_now other other_now) (at : MeetAt m upto one_now one_met other_now other_met) where
    pub one_more_met : Partly m (upto + 1) one one_met other other_met
    one_more_met = record {
      one_numbers = changed_numbers at.first ∙ partly.one_numbers;
      other_numbers = changed_numbers at.second ∙ partly.other_numbers;
      pairs = record { at = λ place x y stands others. pair place x y stands others (place == upto) refl };
      done = λ place a b c d below sa sb sc sd. met place a b c d below sa sb sc sd (place == upto) refl;
      one_left = λ place past. changed_beside at.first place (omega arith) ∙ partly.one_left place (omega arith);
      other_left = λ place past. changed_beside at.second place (omega arith) ∙ partly.other_left place (omega arith);
    }
      where
        pair : (place : ℕ) (x y : ℕ × E) → slice_get one_met place ≡ Some x → slice_get other_met place ≡ Some y → (b : Bool) → (place == upto) ≡ b → m.meets x.1 y.1
        pair place x y stands others true e =
            let here = eqb-true place upto e in
            let x_is = same_stream one_met upto place (at.first.number, at.first.end_after) x (changed_here at.first) here stands in
            let y_is = same_stream other_met upto place (at.second.number, at.second.end_after) y (changed_here at.second) here others in
            subst (λ (p : ℕ × E). m.meets p.1 y.1) x_is (subst (λ (p : ℕ × E). m.meets at.first.end_after p.1) y_is at.met.pair)
        pair place x y stands others false e =
            let apart = eqb-false place upto e in
            partly.pairs.at place x y (sym (changed_beside at.first place apart) ∙ stands) (sym (changed_beside at.second place apart) ∙ others)

        met : (place : ℕ) (a b c d : ℕ × E) → place < upto + 1 → slice_get one place ≡ Some a → slice_get one_met place ≡ Some b → slice_get other place ≡ Some c → slice_get other_met place ≡ Some d → (t : Bool) → (place == upto) ≡ t → HaveMet m a.1 b.1 c.1 d.1
        met place a b c d below sa sb sc sd true e =
            let here = eqb-true place upto e in
            let a_is = same_stream one upto place (at.first.number, at.first.end_before) a (sym (partly.one_left upto (omega arith)) ∙ at.first.stood) here sa in
            let b_is = same_stream one_met upto place (at.first.number, at.first.end_after) b (changed_here at.first) here sb in
            let c_is = same_stream other upto place (at.second.number, at.second.end_before) c (sym (partly.other_left upto (omega arith)) ∙ at.second.stood) here sc in
            let d_is = same_stream other_met upto place (at.second.number, at.second.end_after) d (changed_here at.second) here sd in
            subst (λ (p : ℕ × E). HaveMet m p.1 b.1 c.1 d.1) a_is (
            subst (λ (p : ℕ × E). HaveMet m at.first.end_before p.1 c.1 d.1) b_is (
            subst (λ (p : ℕ × E). HaveMet m at.first.end_before at.first.end_after p.1 d.1) c_is (
            subst (λ (p : ℕ × E). HaveMet m at.first.end_before at.first.end_after at.second.end_before p.1) d_is at.met
            )
            )
            )
        met place a b c d below sa sb sc sd false e =
            let apart = eqb-false place upto e in
            let earlier : place < upto = omega arith in
            partly.done place a b c d earlier sa (sym (changed_beside at.first place apart) ∙ sb) sc (sym (changed_beside at.second place apart) ∙ sd)
