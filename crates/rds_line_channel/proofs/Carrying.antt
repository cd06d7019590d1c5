-- How the tie of a journal to the streams that carry it goes on, step by step.
use Rattle.std.proofs.Common.{◌≡◌, ◌≢◌, inl, inr, ℕ, ◌<◌, if◌then◌else◌, Bool, true, false, is_some, IsSome, Option, Some, None, List, [], ◌++◌, get_or, take, slice_get, refl, sym, ap, subst, ◌∙◌, arith}
use Rattle.std.proofs.lemmas.Bool.{cond-true, cond-false}
use Rattle.std.proofs.lemmas.List.{length-map}
use Rattle.std.proofs.lemmas.Option.{same_Some, slice_get-get_or}
use Rattle.rds_link.specs.Ends.{Means}
use Rattle.rds_model.specs.declared.entry.Entry.{Entry}
use Rattle.rds_model.specs.Past.{open_stream}
use Rattle.rds_model.specs.Streams.{read_bytes, refused_bytes, written_bytes}
use Rattle.rds_model.specs.Sums.{opens}
use Rattle.rds_line_channel.specs.Streams.{StreamsView, AreKept, IsEndedAt, newest_place, numbers, open_number, with_list}
use Rattle.rds_line_channel.specs.StreamChanges.{ChangesAt}
use Rattle.rds_line_channel.specs.ChangeLaws.{changed_here, changed_beside, changed_numbers, changed_length}
use Rattle.rds_line_channel.specs.NumberLaws.{number_there, later_number}
use Rattle.rds_line_channel.specs.Carried.{AreSomeOf, HasCause, IsCarriedBy, IsOn, cut_streams, shut_streams}

-- A journal went on by entries that open no stream and end none. The bytes that arrived and weren't read, and those that are to
-- be written, changed with what was read and written of the open stream.
pub record JournalGoesOn (past next : List Entry) (arrived arrived_next out out_next : List ℕ) : Type 0 where
  pub stream : open_stream next ≡ open_stream past
  pub opened : opens next ≡ opens past
  pub shut : shut_streams next ≡ shut_streams past
  pub refused : (n : ℕ) → refused_bytes n next ≡ refused_bytes n past
  pub written_beside : (n : ℕ) → open_stream past ≢ Some n → written_bytes n next ≡ written_bytes n past
  pub read_beside : (n : ℕ) → open_stream past ≢ Some n → read_bytes n next ≡ read_bytes n past
  pub written : (n : ℕ) → open_stream past ≡ Some n →
      (sent : List ℕ) → sent ++ out ≡ written_bytes n past → sent ++ out_next ≡ written_bytes n next
  pub read : (n : ℕ) → open_stream past ≡ Some n → read_bytes n past ++ arrived ≡ read_bytes n next ++ arrived_next
  pub idle : open_stream past ≡ None → (arrived ≡ []) × (out ≡ []) → (arrived_next ≡ []) × (out_next ≡ [])

module _ {E : Type 0} (s : StreamsView E) where
  -- the number of the open stream, which stands at the newest place
  pub number_on : s.is_open ≡ true →
      (stream : ℕ × E) → slice_get s.list (newest_place s) ≡ Some stream → open_number s ≡ Some stream.0
  number_on on stream stands =
      cond-true s.is_open (slice_get (numbers s.list) (newest_place s)) None on
      ∙ number_there s.list (newest_place s) stream stands

  pub number_off : s.is_open ≡ false → open_number s ≡ None
  number_off off = cond-false s.is_open (slice_get (numbers s.list) (newest_place s)) None off

module _ {E : Type 0} (m : Means E) (s : StreamsView E) where
  -- a stream that isn't open any more has another number than the open one
  pub ended_apart : AreKept m s → (current : Option ℕ) → open_number s ≡ current → (place : ℕ) → IsEndedAt s place →
      (stream : ℕ × E) → slice_get s.list place ≡ Some stream → current ≢ Some stream.0
  ended_apart kept current same place ended stream stands is = go s.is_open refl
    where
      go : (b : Bool) → s.is_open ≡ b → ⊥
      go true on =
          let within = kept.within in
          let below = ended.0 in
          let apart = ended.1 on in
          let newest = get_or s.list (newest_place s) stream in
          let there : slice_get s.list (newest_place s) ≡ Some newest =
          slice_get-get_or s.list (newest_place s) stream (omega (arith, within, below)) in
          let numbered : newest.0 ≡ stream.0 = same_Some newest.0 stream.0 (sym (number_on s on newest there) ∙ (same ∙ is)) in
          let earlier : place < newest_place s = omega (arith, below, apart) in
          let less = later_number s.list kept.numbered place (newest_place s) stream newest earlier stands there in
          omega (arith, less, numbered)
      go false off = let none = number_off s off in cc (none, same, is)

  -- the open stream has a number
  pub open_some : AreKept m s → s.is_open ≡ true → IsSome (open_number s)
  open_some kept on =
      let some = kept.some on in
      let within = kept.within in
      let count = length-map s.list (λ stream. stream.0) in
      let there = slice_get-get_or (numbers s.list) (newest_place s) 0 (omega (arith, some, within, count)) in
      ap is_some (cond-true s.is_open (slice_get (numbers s.list) (newest_place s)) None on ∙ there)

  -- the journal went on, and the streams stay
  pub carried_on : (past next : List Entry) (arrived arrived_next out out_next cuts : List ℕ) → AreKept m s →
      JournalGoesOn past next arrived arrived_next out out_next → IsCarriedBy m past arrived out s cuts →
      IsCarriedBy m next arrived_next out_next s cuts
  carried_on past next arrived arrived_next out out_next cuts kept goes was = record {
    current = was.current ∙ sym goes.stream;
    opened = was.opened ∙ sym goes.opened;
    on = λ tells on. record {
      at = λ stream stands.
          let is = sym was.current ∙ number_on s on stream stands in
          let old = (was.on tells on).at stream stands in
          record { sends = goes.written stream.0 is (m.sent stream.1) old.sends; gets = old.gets ∙ goes.read stream.0 is };
    };
    off = λ tells place ended. record {
      at = λ stream stands.
          let apart = ended_apart kept (open_stream past) was.current place ended stream stands in
          let old = (was.off tells place ended).at stream stands in
          record {
            sends = (old.sends.0, goes.written_beside stream.0 apart ∙ old.sends.1);
            gets = (old.gets.0, old.gets.1 ∙ ap (λ l. l ++ old.gets.0) (sym (goes.read_beside stream.0 apart)));
          };
    };
    idle = λ off. goes.idle (sym was.current ∙ number_off s off) (was.idle off);
    causes = λ place ended. record { at = λ stream stands. caused stream ((was.causes place ended).at stream stands) };
    cut = subst (λ (shut : List ℕ). AreSomeOf (cut_streams cuts) shut) (sym goes.shut) was.cut;
    late = was.late;
  }
    where
      caused : (stream : ℕ × E) → HasCause m past cuts stream.0 stream.1 → HasCause m next cuts stream.0 stream.1
      caused stream (inl cut) = inl cut
      caused stream (inr (inl over)) = inr (inl over)
      caused stream (inr (inr refused)) = inr (inr (λ none. refused (sym (goes.refused stream.0) ∙ none)))

  -- a stream that isn't open any more stays where the open one changes
  ended_stood : {Way : E → E → Type 0} {list : List (ℕ × E)} → s.is_open ≡ true → ChangesAt Way (newest_place s) s.list list →
      (place : ℕ) → IsEndedAt s place →
      (stream : ℕ × E) → slice_get list place ≡ Some stream → slice_get s.list place ≡ Some stream
  ended_stood on change place ended stream stands = sym (changed_beside change place (ended.1 on)) ∙ stands

  -- bytes moved at the end of the open stream, and the journal stays
  pub carried_moved : {Way : E → E → Type 0} (past : List Entry) (arrived arrived_next out out_next cuts : List ℕ) →
      (new : StreamsView E) → new ≡ with_list s new.list → s.is_open ≡ true → ChangesAt Way (newest_place s) s.list new.list →
      (m.tells ≡ true → (number : ℕ) (old later : E) → Way old later →
      IsOn m past arrived out number old → IsOn m past arrived_next out_next number later) →
      IsCarriedBy m past arrived out s cuts → IsCarriedBy m past arrived_next out_next new cuts
  carried_moved past arrived arrived_next out out_next cuts new is_new on change moves was =
      subst (λ (v : StreamsView E). IsCarriedBy m past arrived_next out_next v cuts) (sym {b = with_list s new.list} is_new)
      (record {
        current = ap (λ ns. if s.is_open then slice_get ns (newest_place s) else None) (changed_numbers change) ∙ was.current;
        opened = ap (take s.opened) (changed_numbers change) ∙ was.opened;
        on = λ tells _. record {
          at = λ stream stands.
              let is = same_Some (change.number, change.end_after) stream (sym (changed_here change) ∙ stands) in
              let old = (was.on tells on).at (change.number, change.end_before) change.stood in
              subst (λ (x : ℕ × E). IsOn m past arrived_next out_next x.0 x.1) is
              (moves tells change.number change.end_before change.end_after change.way old);
        };
        off = λ tells place ended. record {
          at = λ stream stands. (was.off tells place ended).at stream (ended_stood on change place ended stream stands);
        };
        idle = λ off. absurd (cc);
        causes = λ place ended. record {
          at = λ stream stands. (was.causes place ended).at stream (ended_stood on change place ended stream stands);
        };
        cut = was.cut;
        late = λ cut. ((was.late cut).0, (was.late cut).1 ∙ sym (changed_length change));
      })
