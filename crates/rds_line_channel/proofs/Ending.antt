-- The open stream ends: it is shut, or a header that came on it was refused.
use Rattle.std.proofs.Common.{◌≡◌, ◌≢◌, ◌⊎◌, inl, inr, ℕ, suc, if◌then◌else◌, ◌<◌, ◌≤◌, true, false, Some, None, slice_get, List, [], ◌∷◌, ◌++◌, take, drop, length, append_assoc, ◌==◌, refl, sym, ap, subst, ◌∙◌, arith}
use Rattle.std.specs.List.{Contains}
use Rattle.std.proofs.lemmas.Bool.{cond-true, cond-false, eq-eqb, ne_eqb}
use Rattle.std.proofs.lemmas.List.{take-append-drop}
use Rattle.std.proofs.lemmas.List.Elements.{Contains-append_left, Contains-push, Contains-push_cases}
use Rattle.std.proofs.lemmas.List.Kept.{AllPairs-from_increasing}
use Rattle.std.proofs.lemmas.Option.{get_or_from_slice_get, slice_get_within}
use Rattle.rds_link.specs.Ends.{Means}
use Rattle.rds_wire.specs.Bytes.{header_bytes, IsHeader}
use Rattle.rds_wire.specs.HeaderLaws.{length-header_bytes}
use Rattle.rds_wire.specs.declared.header.Header.{Header}
use Rattle.rds_wire.specs.declared.kind.Malformed.{Malformed}
use Rattle.rds_model.specs.declared.entry.Entry.{Entry}
use Rattle.rds_model.specs.declared.entry.Entry.TheVariants.{Shut, Bad}
use Rattle.rds_model.specs.Legal.{IsLegal}
use Rattle.rds_model.specs.StreamLaws.{read_bad, read_bad_other}
use Rattle.rds_model.specs.Honest.{Begins}
use Rattle.rds_model.specs.Past.{open_stream}
use Rattle.rds_model.specs.Streams.{read_bytes, refused_bytes, written_bytes}
use Rattle.rds_model.specs.Sums.{opens}
use Rattle.rds_line_channel.specs.ChangeLaws.{changed_cases, changed_length, changed_numbers}
use Rattle.rds_line_channel.specs.StreamChanges.{IsShutDown}
use Rattle.rds_line_channel.specs.NumberLaws.{later_number, number_there}
use Rattle.rds_line_channel.specs.Streams.{StreamsView, AreKept, AreNumbered, EndAt, HasSaidOver, newest_place, numbers}
use Rattle.rds_line_channel.specs.Changes.{EndsStream}
use Rattle.rds_line_channel.specs.Carried.{AreSomeOf, IsOff, HasCause, IsCarriedBy, cut_streams, shut_streams}
use Rattle.rds_line_channel.proofs.Noting.{late_more, shut_beside, shut_too}

-- what becomes of a journal and of the cuts where the open stream ends, which has this number and of which these bytes arrived
pub record Ends (past past_now : List Entry) (arrived cuts cuts_now : List ℕ) (number : ℕ) : Type 0 where
  pub none : open_stream past_now ≡ None
  pub opened : opens past_now ≡ opens past
  pub written : (n : ℕ) → written_bytes n past_now ≡ written_bytes n past
  pub read : Begins (read_bytes number past_now) (read_bytes number past ++ arrived)
  pub read_beside : (n : ℕ) → n ≢ number → read_bytes n past_now ≡ read_bytes n past
  pub refused_beside : (n : ℕ) → n ≢ number → refused_bytes n past_now ≡ refused_bytes n past
  pub more : (n : ℕ) → Contains cuts n → Contains cuts_now n
  pub cut : AreSomeOf (cut_streams cuts) (shut_streams past) → AreSomeOf (cut_streams cuts_now) (shut_streams past_now)
  pub late : Contains cuts_now 0 → Contains cuts 0

-- a stream has a number above 0
number_some : {E : Type 0} (list : List (ℕ × E)) → AreNumbered list → (place : ℕ) (stream : ℕ × E) →
    slice_get list place ≡ Some stream → 0 < stream.0
number_some list numbered place stream stands =
    let there = number_there list place stream stands in
    let within = slice_get_within (numbers list) place stream.0 there in
    let pair = AllPairs-from_increasing (0 ∷ numbers list) numbered 0 (suc place) 0 (omega arith) (omega arith) in
    subst (λ n. 0 < n) (get_or_from_slice_get (numbers list) place stream.0 0 there) pair

-- the stream is shut
shut_ends : (number : ℕ) (past : List Entry) (arrived cuts cuts_now : List ℕ) →
    ((n : ℕ) → Contains cuts n → Contains cuts_now n) →
    (AreSomeOf (cut_streams cuts) (shut_streams past) → AreSomeOf (cut_streams cuts_now) (shut_streams past ++ number ∷ [])) →
    (Contains cuts_now 0 → Contains cuts 0) → Ends past (Shut number ∷ past) arrived cuts cuts_now number
shut_ends number past arrived cuts cuts_now more cut late = record {
  none = refl;
  opened = refl;
  written = λ n. refl;
  read = (arrived, refl);
  read_beside = λ n _. refl;
  refused_beside = λ n _. refl;
  more = more;
  cut = cut;
  late = late;
}

-- a header that came is refused, of which the front had been taken and the rest begins the piece
refused_ends : (number : ℕ) (header : Header) (fault : Malformed) (past : List Entry) (taken piece cuts : List ℕ) (used : ℕ) →
    IsLegal past → open_stream past ≡ Some number → header_bytes header ≡ taken ++ take used piece →
    Ends past (Bad number header fault ∷ past) (taken ++ piece) cuts cuts number
refused_ends number header fault past taken piece cuts used legal on bytes = record {
  none = refl;
  opened = refl;
  written = λ n. refl;
  read = (drop used piece, begins);
  read_beside = λ n apart. read_bad_other n number header fault past (λ same. apart (sym same));
  refused_beside = λ n apart.
      cond-false (number == n) (header_bytes header) (refused_bytes n past) (ne_eqb number n (λ same. apart (sym same)));
  more = λ n cut. cut;
  cut = λ were. were;
  late = λ zero. zero;
}
  where
    before : List ℕ
    before = read_bytes number past

    begins : before ++ (taken ++ piece) ≡ read_bytes number (Bad number header fault ∷ past) ++ drop used piece
    begins =
        ap (λ (l : List ℕ). before ++ (taken ++ l)) (sym (take-append-drop used piece))
        ∙ (ap (λ (l : List ℕ). before ++ l) (sym (append_assoc taken (take used piece) (drop used piece)))
        ∙ (ap (λ (l : List ℕ). before ++ (l ++ drop used piece)) (sym bytes)
        ∙ (sym (append_assoc before (header_bytes header) (drop used piece))
        ∙ ap (λ (l : List ℕ). l ++ drop used piece) (sym (read_bad number header fault past legal on)))))

-- such a header has bytes
refused_some : (number : ℕ) (header : Header) (fault : Malformed) (past : List Entry) → IsHeader header →
    refused_bytes number (Bad number header fault ∷ past) ≢ []
refused_some number header fault past fits none =
    let is = cond-true (number == number) (header_bytes header) (refused_bytes number past) (eq-eqb number number refl) in
    absurd (omega (arith, length-header_bytes header fits, ap length (sym is ∙ none)))

module _ {E : Type 0} (m : Means E) where
  -- an end that had said that it is over has said so still
  pub said_over : (old new : E) → IsShutDown m old new → HasSaidOver m old → HasSaidOver m new
  said_over old new shut (inl saw) = inl (ap (λ s. s.saw) shut.shut.1 ∙ saw)
  said_over old new shut (inr faults) = inr (subst (λ n. 1 ≤ n) (sym (ap (λ s. s.faults) shut.shut.1)) faults)

  module _ (past : List Entry) (arrived out cuts : List ℕ) (s : StreamsView E) (carried : IsCarriedBy m past arrived out s cuts)
      (kept : AreKept m s) (on : s.is_open ≡ true) (s_now : StreamsView E) (ends : EndsStream m s s_now) where
    -- the open stream is the one whose end was shut
    pub ended_is_open : open_stream past ≡ Some ends.change.number
    ended_is_open =
        let there = number_there s.list (newest_place s) (ends.change.number, ends.change.end_before) ends.change.stood in
        sym carried.current ∙ (ap (λ b. if b then slice_get (numbers s.list) (newest_place s) else None) on ∙ there)

    -- its number isn't 0, which stands for no stream
    ended_some : 0 < ends.change.number
    ended_some = number_some s.list kept.numbered (newest_place s) (ends.change.number, ends.change.end_before) ends.change.stood

    -- a stream that was opened stands where the end was shut, or it stands beside
    abbrev HereOrBeside : ℕ → ℕ × E → Type 0
    HereOrBeside place stream =
        ((place ≡ newest_place s) × (stream ≡ (ends.change.number, ends.change.end_after)))
        ⊎ ((place ≢ newest_place s) × (slice_get s.list place ≡ Some stream))

    -- a stream beside has another number
    other_number : (place : ℕ) (stream : ℕ × E) → place < s.opened → place ≢ newest_place s →
        slice_get s.list place ≡ Some stream → stream.0 ≢ ends.change.number
    other_number place stream below apart stands same =
        let shut : ℕ × E = (ends.change.number, ends.change.end_before) in
        let lower = later_number s.list kept.numbered place (newest_place s) stream shut (omega arith) stands ends.change.stood in
        absurd (omega arith)

    module _ (past_now : List Entry) (cuts_now : List ℕ)
        (gone : Ends past past_now arrived cuts cuts_now ends.change.number) where
      off_now : m.tells ≡ true → (place : ℕ) (stream : ℕ × E) → place < s.opened → HereOrBeside place stream →
          IsOff m past_now stream.0 stream.1
      off_now tells place stream below (inl here) =
          let shut = ends.change in
          let was = (carried.on tells on).at (shut.number, shut.end_before) shut.stood in
          subst (λ (x : ℕ × E). IsOff m past_now x.0 x.1) (sym here.1) (record {
            sends = (out, gone.written shut.number ∙ (sym was.sends ∙ ap (λ (l : List ℕ). l ++ out) (sym shut.way.sent.0)));
            gets = (gone.read.0, shut.way.got.0 ∙ (was.gets ∙ gone.read.1));
          })
      off_now tells place stream below (inr beside) =
          let was = (carried.off tells place (below, λ _. beside.0)).at stream beside.1 in
          let other = other_number place stream below beside.0 beside.1 in
          record {
            sends = (was.sends.0, gone.written stream.0 ∙ was.sends.1);
            gets = (was.gets.0, was.gets.1 ∙ ap (λ (l : List ℕ). l ++ was.gets.0) (sym (gone.read_beside stream.0 other)));
          }

      caused_still : (n : ℕ) (e : E) → n ≢ ends.change.number → HasCause m past cuts n e → HasCause m past_now cuts_now n e
      caused_still n e other (inl cut) = inl (gone.more n cut)
      caused_still n e other (inr (inl over)) = inr (inl over)
      caused_still n e other (inr (inr refused)) = inr (inr (λ none. refused (sym (gone.refused_beside n other) ∙ none)))

      caused_now : HasCause m past_now cuts_now ends.change.number ends.change.end_after →
          (place : ℕ) (stream : ℕ × E) → place < s.opened → HereOrBeside place stream →
          HasCause m past_now cuts_now stream.0 stream.1
      caused_now cause place stream below (inl here) =
          subst (λ (x : ℕ × E). HasCause m past_now cuts_now x.0 x.1) (sym here.1) cause
      caused_now cause place stream below (inr beside) =
          let was = (carried.causes place (below, λ _. beside.0)).at stream beside.1 in
          caused_still stream.0 stream.1 (other_number place stream below beside.0 beside.1) was

      carried_ended : HasCause m past_now cuts_now ends.change.number ends.change.end_after →
          IsCarriedBy m past_now [] [] (record s { list = s_now.list; is_open = false }) cuts_now
      carried_ended cause = record {
        current = sym gone.none;
        opened = ap (take s.opened) (changed_numbers ends.change) ∙ (carried.opened ∙ sym gone.opened);
        on = λ tells still. absurd (cc);
        off = λ tells place is. record {
          at = λ stream stands. off_now tells place stream is.0 (changed_cases ends.change place stream stands);
        };
        idle = λ _. (refl, refl);
        causes = λ place is. record {
          at = λ stream stands. caused_now cause place stream is.0 (changed_cases ends.change place stream stands);
        };
        cut = gone.cut carried.cut;
        late = λ zero. (refl, (carried.late (gone.late zero)).1 ∙ sym (changed_length ends.change));
      }

      carried_by_now : HasCause m past_now cuts_now ends.change.number ends.change.end_after →
          IsCarriedBy m past_now [] [] s_now cuts_now
      carried_by_now cause =
          subst (λ (v : StreamsView E). IsCarriedBy m past_now [] [] v cuts_now) (sym ends.is) (carried_ended cause)

    -- it was shut, since its end had said that it is over
    pub carried_over : EndAt (HasSaidOver m) (newest_place s) s.list →
        IsCarriedBy m (Shut ends.change.number ∷ past) [] [] s_now cuts
    carried_over over =
        let shut = ends.change in
        let said = over.at (shut.number, shut.end_before) shut.stood in
        carried_by_now (Shut shut.number ∷ past) cuts (shut_ends shut.number past arrived cuts cuts (λ n cut. cut) (shut_beside shut.number) (λ zero. zero))
        (inr (inl (said_over shut.end_before shut.end_after shut.way said)))

    -- a cut shut it
    pub carried_cut : IsCarriedBy m (Shut ends.change.number ∷ past) [] [] s_now (cuts ++ ends.change.number ∷ [])
    carried_cut =
        let number = ends.change.number in
        carried_by_now (Shut number ∷ past) (cuts ++ number ∷ [])
        (shut_ends number past arrived cuts (cuts ++ number ∷ []) (λ n cut. Contains-append_left cuts (number ∷ []) n cut)
        (shut_too cuts number ended_some) (λ zero. earlier (Contains-push_cases cuts number 0 zero)))
        (inl (Contains-push cuts number))
      where
        earlier : Contains cuts 0 ⊎ (ends.change.number ≡ 0) → Contains cuts 0
        earlier (inl cut) = cut
        earlier (inr none) = absurd (let some = ended_some in omega arith)

    -- a header that came on it was refused
    pub carried_refused : (header : Header) (fault : Malformed) (taken piece : List ℕ) (used : ℕ) → arrived ≡ taken ++ piece →
        IsLegal past → IsHeader header → header_bytes header ≡ taken ++ take used piece →
        IsCarriedBy m (Bad ends.change.number header fault ∷ past) [] [] s_now cuts
    carried_refused header fault taken piece used came legal fits bytes =
        let number = ends.change.number in
        let past_now = Bad number header fault ∷ past in
        let gone = refused_ends number header fault past taken piece cuts used legal ended_is_open bytes in
        carried_by_now past_now cuts (subst (λ (l : List ℕ). Ends past past_now l cuts cuts number) (sym came) gone)
        (inr (inr (refused_some number header fault past fits)))

  -- a cut came where no stream was open and no further one is left
  pub carried_late : (past : List Entry) (arrived out cuts : List ℕ) (s : StreamsView E) → s.is_open ≡ false →
      s.opened ≡ length s.list → IsCarriedBy m past arrived out s cuts → IsCarriedBy m past arrived out s (cuts ++ 0 ∷ [])
  carried_late past arrived out cuts s off last carried = record {
    current = carried.current;
    opened = carried.opened;
    on = carried.on;
    off = carried.off;
    idle = carried.idle;
    causes = λ place is. record { at = λ stream stands. more stream.0 stream.1 ((carried.causes place is).at stream stands) };
    cut = subst (λ (noted : List ℕ). AreSomeOf noted (shut_streams past)) (sym (late_more cuts)) carried.cut;
    late = λ zero. (off, last);
  }
    where
      more : (number : ℕ) (e : E) → HasCause m past cuts number e → HasCause m past (cuts ++ 0 ∷ []) number e
      more number e (inl cut) = inl (Contains-append_left cuts (0 ∷ []) number cut)
      more number e (inr other) = inr other
