-- The meeting of the streams of two lines. Source: this project's own.
use Rattle.std.specs.Prelude.{◌≡◌, ℕ, true, Some, List, slice_get}
use Rattle.rds_link.specs.Ends.{Means, Remains, MovesNothing, CountsStay, HasAll}
use Rattle.rds_link.specs.Standing.{LearnsOther, HaveCause, HaveFirst}
use Rattle.rds_model.specs.Honest.{Begins}
use Rattle.rds_line_channel.specs.StreamChanges.{ChangesAt}

module _ {E : Type 0} where
  -- this holds of the two ends at each place
  pub record AtEach (Holds : E → E → Type 0) (xs ys : List (ℕ × E)) : Type 0 where
    pub at : (place : ℕ) (x y : ℕ × E) → slice_get xs place ≡ Some x → slice_get ys place ≡ Some y → Holds x.1 y.1

  module _ (m : Means E) where
    -- each end meets whom it met before
    pub record StayPaired (old new : List (ℕ × E)) : Type 0 where
      pub forth : (others : List (ℕ × E)) → AtEach m.meets old others → AtEach m.meets new others
      pub back : (others : List (ℕ × E)) → AtEach m.meets others old → AtEach m.meets others new

    -- what one end got is a beginning of what the other sent
    abbrev pub GotBeginning : E → E → Type 0
    GotBeginning a b = m.tells ≡ true → Begins (m.got a) (m.sent b)

    -- an end meets another: it learns whether the other has shut, moves nothing and counts nothing
    pub record Meets (old new other : E) : Type 0 where
      pub learns : LearnsOther (m.stand old) (m.stand new) (m.stand other)
      pub moves : MovesNothing m old new
      pub counts : CountsStay m old new
      pub meets : Remains m old new

    -- two ends have met: each knows all that the other sent
    pub record HaveMet (one one_met other other_met : E) : Type 0 where
      pub pair : m.meets one_met other_met
      pub first : Meets one one_met other
      pub second : Meets other other_met one
      pub causes : HaveCause (m.stand one_met) (m.stand other_met)
      pub order : HaveFirst (m.stand one_met) (m.stand other_met)
      pub there : HasAll m one_met other_met
      pub back : HasAll m other_met one_met

    -- the two ends at each place have met
    pub record AreMet (one one_met other other_met : List (ℕ × E)) : Type 0 where
      pub at : (place : ℕ) (a b c d : ℕ × E) → slice_get one place ≡ Some a → slice_get one_met place ≡ Some b → slice_get other place ≡ Some c → slice_get other_met place ≡ Some d → HaveMet a.1 b.1 c.1 d.1

    -- the two ends at this place have met, and nothing else changed
    pub record MeetAt (place : ℕ) (one one_met other other_met : List (ℕ × E)) : Type 0 where
      pub first : ChangesAt (MovesNothing m) place one one_met
      pub second : ChangesAt (MovesNothing m) place other other_met
      pub met : HaveMet first.end_before first.end_after second.end_before second.end_after
