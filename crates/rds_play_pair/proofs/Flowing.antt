-- What flows from a writer to a reader stays a beginning of what was written, and loses no byte before a stream ends.
use Rattle.std.proofs.Common.{◌≡◌, inl, inr, ℕ, ◌<◌, Option, Some, None, List, [], ◌∷◌, ◌++◌, take, drop, sym, ◌∙◌, ap, subst, append_assoc}
use Rattle.std.specs.List.{flat_map}
use Rattle.std.proofs.lemmas.Bool.{cases_eq}
use Rattle.std.proofs.lemmas.List.{take-append-drop}
use Rattle.rds_wire.specs.declared.frame.Frame.{Frame}
use Rattle.rds_wire.specs.declared.header.Header.{Header}
use Rattle.rds_wire.specs.declared.kind.Malformed.{Malformed}
use Rattle.rds_wire.specs.Bytes.{header_bytes, frame_bytes}
use Rattle.rds_frame.specs.Holding.{waiting_bytes}
use Rattle.rds_model.specs.declared.entry.Entry.TheVariants.{Pull, Read, Bad}
use Rattle.rds_model.specs.declared.entry.Outcome.{Outcome}
use Rattle.rds_model.specs.Past.{open_stream, newest_stream}
use Rattle.rds_model.specs.Streams.{refused_bytes, written_bytes, read_bytes}
use Rattle.rds_model.specs.Honest.{Begins}
use Rattle.rds_model.specs.Legal.{IsLegal}
use Rattle.rds_play_pair.specs.Sides.{Side, unpassed_bytes}
use Rattle.rds_play_pair.specs.Changes.{Moves, opened, pong_entries}
use Rattle.rds_play_pair.specs.Joined.{Flows}
use Rattle.rds_play_pair.proofs.Journals.{open_is_newest, no_pulls, no_reads, none_refused, unrefused, wrote-pull, wrote-pull_other, got-read, got-read_other, got-bad, got-bad_other}

-- two streams that are open are one
one_stream : (s j : ℕ) (o : Option ℕ) → o ≡ Some s → o ≡ Some j → s ≡ j
one_stream s j o is_k is_j = let both : Some s ≡ Some j = sym is_k ∙ is_j in cc

-- a change that neither writes nor passes anything
pub flows_still : (writer writer_new reader reader_new : Side) → Flows writer reader →
    ((s : ℕ) → written_bytes s writer_new.past ≡ written_bytes s writer.past) → ((s : ℕ) → read_bytes s reader_new.past ≡ read_bytes s reader.past) →
    ((s : ℕ) → open_stream reader_new.past ≡ Some s → open_stream reader.past ≡ Some s) →
    ((s : ℕ) → open_stream reader_new.past ≡ Some s → unpassed_bytes reader_new ++ writer_new.flying ≡ unpassed_bytes reader ++ writer.flying) →
    Flows writer_new reader_new
flows_still writer writer_new reader reader_new flows wrote_is got_is stream_is bytes = record {
  prefixes = λ s.
      let begins = flows.prefixes s in
      (begins.0, wrote_is s ∙ begins.1 ∙ ap (λ (front : List ℕ). front ++ begins.0) (sym (got_is s)));
  in_flight = λ s on.
      wrote_is s ∙ flows.in_flight s (stream_is s on)
      ∙ (λ i. (sym (got_is s) i) ++ (sym (bytes s on) i));
}

-- a change that neither writes nor passes anything, behind which the reader has no stream
pub flows_ended : (writer writer_new reader reader_new : Side) → Flows writer reader →
    ((s : ℕ) → written_bytes s writer_new.past ≡ written_bytes s writer.past) → ((s : ℕ) → read_bytes s reader_new.past ≡ read_bytes s reader.past) →
    ((s : ℕ) → open_stream reader_new.past ≡ Some s → ⊥) → Flows writer_new reader_new
flows_ended writer writer_new reader reader_new flows wrote_is got_is closed = record {
  prefixes = λ s.
      let begins = flows.prefixes s in
      (begins.0, wrote_is s ∙ begins.1 ∙ ap (λ (front : List ℕ). front ++ begins.0) (sym (got_is s)));
  in_flight = λ s on. absurd (closed s on);
}

-- bytes move from what is in flight to the reader
pub flows_moved : (bytes used : ℕ) (writer writer_new reader reader_new : Side) → Flows writer reader →
    Moves bytes used writer writer_new reader reader_new → Flows writer_new reader_new
flows_moved bytes used writer writer_new reader reader_new flows moves =
    flows_still writer writer_new reader reader_new flows
    (λ s. ap (λ (e : Side). written_bytes s e.past) moves.gone)
    (λ s. ap (λ (e : Side). read_bytes s e.past) moves.rest_same)
    (λ s on. sym (ap (λ (e : Side). open_stream e.past) moves.rest_same) ∙ on)
    (λ s on.
    (λ i. (moves.came i) ++ (moves.gone i).flying)
    ∙ append_assoc (unpassed_bytes reader) (take used writer.flying) (drop used writer.flying)
    ∙ ap (λ (rest : List ℕ). unpassed_bytes reader ++ rest) (take-append-drop used writer.flying))

-- a frame is pulled
pub flows_pulled : (writer reader : Side) (s : ℕ) (f : Frame) → Flows writer reader →
    open_stream writer.past ≡ Some s → newest_stream writer.past ≡ newest_stream reader.past →
    Flows (record writer { past = Pull s f ∷ writer.past; flying = writer.flying ++ frame_bytes f }) reader
flows_pulled writer reader s f flows on newest = record { prefixes = prefixes; in_flight = in_flight }
  where
    prefixes : (j : ℕ) → Begins (read_bytes j reader.past) (written_bytes j (Pull s f ∷ writer.past))
    prefixes j =
        let begins = flows.prefixes j in
        elim (cases_eq s j) [
          | inl same ↦
              let grown : written_bytes j (Pull s f ∷ writer.past) ≡ written_bytes j writer.past ++ frame_bytes f =
              subst (λ (e : ℕ). written_bytes e (Pull s f ∷ writer.past) ≡ written_bytes e writer.past ++ frame_bytes f) same (wrote-pull s f writer.past) in (
                begins.0 ++ frame_bytes f,
                grown ∙ ap (λ (bytes : List ℕ). bytes ++ frame_bytes f) begins.1
                    ∙ append_assoc (read_bytes j reader.past) begins.0 (frame_bytes f),
              )
          | inr other ↦ (begins.0, wrote-pull_other j s f writer.past other ∙ begins.1)
        ]

    in_flight : (j : ℕ) → open_stream reader.past ≡ Some j →
        written_bytes j (Pull s f ∷ writer.past) ≡ read_bytes j reader.past ++ (unpassed_bytes reader ++ (writer.flying ++ frame_bytes f))
    in_flight j here =
        let same : s ≡ j = sym (open_is_newest writer.past s on) ∙ newest ∙ open_is_newest reader.past j here in
        subst (λ (e : ℕ). written_bytes e (Pull s f ∷ writer.past) ≡ written_bytes e writer.past ++ frame_bytes f) same (wrote-pull s f writer.past)
        ∙ ap (λ (bytes : List ℕ). bytes ++ frame_bytes f) (flows.in_flight j here)
        ∙ append_assoc (read_bytes j reader.past) (unpassed_bytes reader ++ writer.flying) (frame_bytes f)
        ∙ ap (λ (bytes : List ℕ). read_bytes j reader.past ++ bytes) (append_assoc (unpassed_bytes reader) writer.flying (frame_bytes f))

-- a frame that waits is passed
pub flows_passed : (writer reader : Side) (s : ℕ) (f : Frame) (came : Outcome) (owed : Option ℕ) → Flows writer reader →
    IsLegal reader.past → open_stream reader.past ≡ Some s → reader.waiting ≡ Some f →
    Flows writer (record reader { past = pong_entries owed ++ Read s f came ∷ reader.past; waiting = None })
flows_passed writer reader s f came owed flows legal on waits = by_pong owed
  where
    grown : read_bytes s (Read s f came ∷ reader.past) ≡ read_bytes s reader.past ++ frame_bytes f
    grown = got-read s f came reader.past (unrefused s reader.past legal on)

    left : written_bytes s writer.past ≡ read_bytes s (Read s f came ∷ reader.past) ++ (reader.rest ++ writer.flying)
    left =
        flows.in_flight s on
        ∙ ap (λ (w : Option Frame). read_bytes s reader.past ++ ((waiting_bytes w ++ reader.rest) ++ writer.flying)) waits
        ∙ ap (λ (bytes : List ℕ). read_bytes s reader.past ++ bytes) (append_assoc (frame_bytes f) reader.rest writer.flying)
        ∙ sym (append_assoc (read_bytes s reader.past) (frame_bytes f) (reader.rest ++ writer.flying))
        ∙ sym (ap (λ (bytes : List ℕ). bytes ++ (reader.rest ++ writer.flying)) grown)

    prefixes : (j : ℕ) → Begins (read_bytes j (Read s f came ∷ reader.past)) (written_bytes j writer.past)
    prefixes j =
        elim (cases_eq s j) [
          | inl same ↦
              subst (λ (e : ℕ). Begins (read_bytes e (Read s f came ∷ reader.past)) (written_bytes e writer.past)) same (reader.rest ++ writer.flying, left)
          | inr other ↦
              let begins = flows.prefixes j in
              (begins.0, begins.1 ∙ ap (λ (front : List ℕ). front ++ begins.0) (sym (got-read_other j s f came reader.past other)))
        ]

    in_flight : (j : ℕ) → open_stream reader.past ≡ Some j →
        written_bytes j writer.past ≡ read_bytes j (Read s f came ∷ reader.past) ++ (reader.rest ++ writer.flying)
    in_flight j here =
        subst (λ (e : ℕ). written_bytes e writer.past ≡ read_bytes e (Read s f came ∷ reader.past) ++ (reader.rest ++ writer.flying))
        (one_stream s j (open_stream reader.past) on here) left

    by_pong : (o : Option ℕ) → Flows writer (record reader { past = pong_entries o ++ Read s f came ∷ reader.past; waiting = None })
    by_pong None = record { prefixes = prefixes; in_flight = in_flight }
    by_pong (Some port) = record { prefixes = prefixes; in_flight = in_flight }

-- the next stream is opened at both
pub flows_opened : (writer reader : Side) (s : ℕ) → Flows writer reader → IsLegal writer.past → IsLegal reader.past →
    newest_stream writer.past < s → newest_stream reader.past < s → reader.waiting ≡ None → reader.rest ≡ [] →
    Flows (opened s writer) (opened s reader)
flows_opened writer reader s flows legal_w legal_r newer_w newer_r waits rests = record {
  prefixes = flows.prefixes;
  in_flight = in_flight;
}
  where
    nothing_wrote : written_bytes s writer.past ≡ []
    nothing_wrote = ap (λ (fs : List Frame). flat_map frame_bytes fs) (no_pulls s writer.past legal_w newer_w)

    nothing_got : read_bytes s reader.past ≡ []
    nothing_got =
        ap (λ (fs : List Frame). flat_map frame_bytes fs ++ refused_bytes s reader.past) (no_reads s reader.past legal_r newer_r)
        ∙ none_refused s reader.past legal_r newer_r

    nothing_taken : unpassed_bytes reader ≡ []
    nothing_taken = ap (λ (w : Option Frame). waiting_bytes w ++ reader.rest) waits ∙ rests

    in_flight : (j : ℕ) → Some s ≡ Some j → written_bytes j writer.past ≡ read_bytes j reader.past ++ (unpassed_bytes reader ++ [])
    in_flight j is =
        let same : s ≡ j = cc in
        subst (λ (e : ℕ). written_bytes e writer.past ≡ read_bytes e reader.past ++ (unpassed_bytes reader ++ [])) same
        (nothing_wrote ∙ sym (λ i. (nothing_got i) ++ ((nothing_taken i) ++ [])))

-- A header is refused whose bytes were in flight.
pub begins_refused : (writer reader : Side) (s : ℕ) (h : Header) (found : Malformed) (came left : List ℕ) → Flows writer reader →
    IsLegal reader.past → open_stream reader.past ≡ Some s → writer.flying ≡ came ++ left →
    header_bytes h ≡ unpassed_bytes reader ++ came → (j : ℕ) → Begins (read_bytes j (Bad s h found ∷ reader.past)) (written_bytes j writer.past)
begins_refused writer reader s h found came left flows legal on split bytes j =
    elim (cases_eq s j) [
      | inl same ↦ subst (λ (e : ℕ). Begins (read_bytes e (Bad s h found ∷ reader.past)) (written_bytes e writer.past)) same (left, whole)
      | inr other ↦
          let begins = flows.prefixes j in
          (begins.0, begins.1 ∙ ap (λ (front : List ℕ). front ++ begins.0) (sym (got-bad_other j s h found reader.past other)))
    ]
  where
    whole : written_bytes s writer.past ≡ read_bytes s (Bad s h found ∷ reader.past) ++ left
    whole =
        flows.in_flight s on
        ∙ ap (λ (bytes : List ℕ). read_bytes s reader.past ++ (unpassed_bytes reader ++ bytes)) split
        ∙ ap (λ (bytes : List ℕ). read_bytes s reader.past ++ bytes) (sym (append_assoc (unpassed_bytes reader) came left))
        ∙ sym (append_assoc (read_bytes s reader.past) (unpassed_bytes reader ++ came) left)
        ∙ ap (λ (bytes : List ℕ). (read_bytes s reader.past ++ bytes) ++ left) (sym bytes)
        ∙ ap (λ (bytes : List ℕ). bytes ++ left) (sym (got-bad s h found reader.past (unrefused s reader.past legal on)))
