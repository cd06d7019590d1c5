-- A channel begins, and the next stream is opened.
use Rattle.std.proofs.Common.{◌≡◌, ℕ, ◌+◌, ◌-◌, ◌<◌, All, true, false, Some, slice_get, List, [], ◌∷◌, ◌++◌, refl, sym, ap, subst, ◌∙◌, arith}
use Rattle.std.proofs.lemmas.List.{length-map}
use Rattle.std.proofs.lemmas.List.Elements.{All-contains, Contains-push}
use Rattle.std.proofs.lemmas.Option.{same_Some, slice_get_within}
use Rattle.rds_link.specs.Ends.{Means}
use Rattle.rds_model.specs.declared.entry.Entry.{Entry}
use Rattle.rds_model.specs.declared.entry.Entry.TheVariants.{Open}
use Rattle.rds_model.specs.Legal.{IsLegal}
use Rattle.rds_model.specs.Past.{newest_stream}
use Rattle.rds_model.specs.StreamLaws.{none_read, none_written}
use Rattle.rds_model.specs.Sums.{opens}
use Rattle.rds_line_channel.specs.NumberLaws.{number_there, opened_more}
use Rattle.rds_line_channel.specs.Streams.{StreamsView, AreKept, IsEndedAt, numbers, opened_numbers}
use Rattle.rds_line_channel.specs.Carried.{IsOn, IsOff, IsCarriedBy, nothing}

-- before the first stream nothing was opened, noted or moved
pub carried_first : {E : Type 0} (m : Means E) (list : List (ℕ × E)) →
    IsCarriedBy m [] [] [] (record { list = list; opened = 0; is_open = false }) []
carried_first m list = record {
  current = refl;
  opened = refl;
  on = λ tells on. absurd (cc);
  off = λ tells place is. absurd (let below = is.0 in omega arith);
  idle = λ off. (refl, refl);
  causes = λ place is. absurd (let below = is.0 in omega arith);
  cut = nothing;
  late = λ zero. absurd (let below = zero.1 in omega arith);
}

above_newest : (past : List Entry) (number : ℕ) → 0 < number → All (λ earlier. earlier < number) (opens past) →
    newest_stream past < number
above_newest [] number some above = some
above_newest (Open stream ∷ past) number some above =
    All-contains (λ earlier. earlier < number) (opens past ++ stream ∷ []) stream above (Contains-push (opens past) stream)
above_newest (_ ∷ past) number some above = above_newest past number some above

-- a number above 0 and above those of all streams that were opened is above the newest
pub newest_below : {E : Type 0} (past : List Entry) (s : StreamsView E) (number : ℕ) → opened_numbers s ≡ opens past →
    (0 < number) × All (λ earlier. earlier < number) (opened_numbers s) → newest_stream past < number
newest_below past s number same above =
    above_newest past number above.0 (subst (λ (ns : List ℕ). All (λ earlier. earlier < number) ns) same above.1)

module _ {E : Type 0} (m : Means E) (past : List Entry) (arrived out : List ℕ) (s : StreamsView E) (cuts : List ℕ)
    (carried : IsCarriedBy m past arrived out s cuts) (off : s.is_open ≡ false) where
  -- neither end has moved anything on the new stream, and the journal has nothing of it
  starts_empty : (number : ℕ) (stream : ℕ × E) → number ≡ stream.0 → (m.sent stream.1 ≡ []) × (m.got stream.1 ≡ []) →
      IsLegal past → newest_stream past < number → IsOn m (Open number ∷ past) arrived out stream.0 stream.1
  starts_empty number stream is unused legal newer =
      let idle = carried.idle off in
      let above = subst (λ n. newest_stream past < n) is newer in
      record {
        sends = ap (λ (l : List ℕ). l ++ out) unused.0 ∙ (idle.1 ∙ sym (none_written stream.0 past legal above));
        gets = unused.1 ∙ (sym idle.0 ∙ ap (λ (l : List ℕ). l ++ arrived) (sym (none_read stream.0 past legal above)));
      }

  -- a stream that was opened before stands to the journal as it did
  off_still : (number other : ℕ) (e : E) → IsOff m past other e → IsOff m (Open number ∷ past) other e
  off_still number other e was = record { sends = was.sends; gets = was.gets }

  ended_before : (place : ℕ) → IsEndedAt (record s { opened = s.opened + 1; is_open = true }) place → IsEndedAt s place
  ended_before place is = ((let apart = is.1 refl in let below = is.0 in omega arith), λ on. absurd (cc))

  pub carried_opened : AreKept m s → IsLegal past → (number : ℕ) → slice_get (numbers s.list) s.opened ≡ Some number →
      newest_stream past < number →
      IsCarriedBy m (Open number ∷ past) arrived out (record s { opened = s.opened + 1; is_open = true }) cuts
  carried_opened kept legal number next newer =
      let newest : s.opened + 1 - 1 ≡ s.opened = omega arith in
      record {
        current = ap (slice_get (numbers s.list)) newest ∙ next;
        opened = opened_more s.list s.opened number next ∙ ap (λ (l : List ℕ). l ++ number ∷ []) carried.opened;
        on = λ tells on. record {
          at = λ stream stands.
              let stood : slice_get s.list s.opened ≡ Some stream = ap (slice_get s.list) (sym newest) ∙ stands in
              let is : number ≡ stream.0 = same_Some number stream.0 (sym next ∙ number_there s.list s.opened stream stood) in
              starts_empty number stream is (((kept.unused s.opened (omega arith)).at stream stood).0 tells) legal newer;
        };
        off = λ tells place is. record {
          at = λ stream stands.
              off_still number stream.0 stream.1 ((carried.off tells place (ended_before place is)).at stream stands);
        };
        idle = λ on. absurd (cc);
        causes = λ place is. carried.causes place (ended_before place is);
        cut = carried.cut;
        late = λ zero.
            let left = slice_get_within (numbers s.list) s.opened number next in
            let none = (carried.late zero).1 in
            absurd (omega (arith, length-map s.list (λ (x : ℕ × E). x.0)));
      }
