-- The ends of all streams change, and none of them moves a byte.
use Rattle.std.proofs.Common.{◌≡◌, inl, inr, ℕ, ◌≤◌, if◌then◌else◌, None, slice_get, List, ◌++◌, take, sym, ap, subst, ◌∙◌}
use Rattle.rds_link.specs.Ends.{Means}
use Rattle.rds_model.specs.declared.entry.Entry.{Entry}
use Rattle.rds_line_channel.specs.ChangeLaws.{same_length}
use Rattle.rds_line_channel.specs.Meeting.{AtEach}
use Rattle.rds_line_channel.specs.MeetingLaws.{MeetsSome}
use Rattle.rds_line_channel.specs.NumberLaws.{same_number}
use Rattle.rds_line_channel.specs.Streams.{StreamsView, HasSaidOver, numbers, newest_place, with_list}
use Rattle.rds_line_channel.specs.Carried.{StreamAt, IsOn, IsOff, HasCause, IsCarriedBy}

-- what held of the number and the end of a stream holds of it still
still_at : {E : Type 0} {Way : E → E → Type 0} {Was Is : ℕ → E → Type 0} (old new : List (ℕ × E)) → numbers new ≡ numbers old →
    AtEach Way old new → ((number : ℕ) (x y : E) → Way x y → Was number x → Is number y) →
    (place : ℕ) → StreamAt Was place old → StreamAt Is place new
still_at old new same each becomes place was = record {
  at = λ stream stands.
      let stood = same_number new old (sym same) place stream.0 stream.1 stands in
      becomes stream.0 stood.0 stream.1 (each.at place (stream.0, stood.0) stream stood.1 stands)
      (was.at (stream.0, stood.0) stood.1);
}

module _ {E : Type 0} (m : Means E) where
  still_over : (x y : E) → MeetsSome m x y → HasSaidOver m x → HasSaidOver m y
  still_over x y met (inl saw) = inl (ap (λ s. s.saw) met.1.learns.0 ∙ saw)
  still_over x y met (inr faults) = inr (subst (λ n. 1 ≤ n) (sym (ap (λ s. s.faults) met.1.learns.0)) faults)

  module _ (past : List Entry) (arrived out cuts : List ℕ) where
    still_on : (number : ℕ) (x y : E) → MeetsSome m x y → IsOn m past arrived out number x → IsOn m past arrived out number y
    still_on number x y met was = record {
      sends = ap (λ (l : List ℕ). l ++ out) met.1.moves.0 ∙ was.sends;
      gets = met.1.moves.1 ∙ was.gets;
    }

    still_off : (number : ℕ) (x y : E) → MeetsSome m x y → IsOff m past number x → IsOff m past number y
    still_off number x y met was = record {
      sends = (was.sends.0, was.sends.1 ∙ ap (λ (l : List ℕ). l ++ was.sends.0) (sym met.1.moves.0));
      gets = (was.gets.0, met.1.moves.1 ∙ was.gets.1);
    }

    still_caused : (number : ℕ) (x y : E) → MeetsSome m x y → HasCause m past cuts number x → HasCause m past cuts number y
    still_caused number x y met (inl cut) = inl cut
    still_caused number x y met (inr (inl over)) = inr (inl (still_over x y met over))
    still_caused number x y met (inr (inr refused)) = inr (inr refused)

    -- the ends have met those of another line
    pub carried_met : (s : StreamsView E) (new : List (ℕ × E)) → numbers new ≡ numbers s.list → AtEach (MeetsSome m) s.list new →
        IsCarriedBy m past arrived out s cuts → IsCarriedBy m past arrived out (with_list s new) cuts
    carried_met s new same each carried = record {
      current = ap (λ (ns : List ℕ). if s.is_open then slice_get ns (newest_place s) else None) same ∙ carried.current;
      opened = ap (take s.opened) same ∙ carried.opened;
      on = λ tells open_still. still_at s.list new same each still_on (newest_place s) (carried.on tells open_still);
      off = λ tells place is. still_at s.list new same each still_off place (carried.off tells place is);
      idle = carried.idle;
      causes = λ place is. still_at s.list new same each still_caused place (carried.causes place is);
      cut = carried.cut;
      late = λ zero. ((carried.late zero).0, (carried.late zero).1 ∙ sym (same_length new s.list same));
    }
