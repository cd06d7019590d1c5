-- Where the lines of a connection met and then each had an idle turn that left nothing to be written, their journals are drained.
use Rattle.std.proofs.Common.{◌≡◌, inl, inr, ℕ, ◌<◌, true, List, ◌++◌, Some, slice_get, sym, ap, subst, ◌∙◌, arith}
use Rattle.std.proofs.lemmas.Bool.{cases_lt, false≢true}
use Rattle.std.proofs.lemmas.List.{append-nil}
use Rattle.std.proofs.lemmas.Option.{same_Some}
use Rattle.rds_link.specs.Ends.{Means}
use Rattle.rds_model.specs.declared.entry.Entry.{Entry}
use Rattle.rds_model.specs.Drained.{IsQuiet, IsSettledBetween, OwesNothing}
use Rattle.rds_model.specs.Honest.{IsHonest}
use Rattle.rds_model.specs.Legal.{IsLegal}
use Rattle.rds_model.specs.Streams.{read_bytes, written_bytes}
use Rattle.rds_line_channel.specs.Meeting.{AtEach}
use Rattle.rds_line_channel.specs.NumberLaws.{same_number}
use Rattle.rds_line_channel.specs.Streams.{numbers}
use Rattle.rds_line.specs.Line.{LineView, line_past}
use Rattle.rds_run_rounds.specs.Drained.{AreDrained}
use Rattle.rds_run_rounds.specs.Rest.{AreMetLines, HasRested, KeepsStreams, KnowEachOther}
use Rattle.rds_run_rounds.proofs.Whole.{HaveOneSplit, all_read}
use Rattle.rds_run_rounds.proofs.Resting.{Rests, rests}

-- quiet journals are settled too
abbrev pub QuietIsSettled : Type 0
QuietIsSettled = (a b : List Entry) → IsLegal a → IsLegal b → IsHonest a b → (s : ℕ) → IsQuiet s a b → IsSettledBetween s a b

-- an end stands at the same place of the other list, and the two know each other
met_there : {E : Type 0} (m : Means E) (xs ys : List (ℕ × E)) → numbers ys ≡ numbers xs → AtEach (KnowEachOther m) xs ys →
    (place number : ℕ) (one : E) → slice_get xs place ≡ Some (number, one) →
    (other : E) × (slice_get ys place ≡ Some (number, other)) × KnowEachOther m one other
met_there m xs ys same met place number one stands =
    let there = same_number xs ys same place number one stands in
    (there.0, there.1, met.at place (number, one) (number, there.0) stands there.1)

-- two ends that met know each other the other way round
turned : {E : Type 0} (m : Means E) (xs ys : List (ℕ × E)) → AtEach (KnowEachOther m) xs ys → AtEach (KnowEachOther m) ys xs
turned m xs ys met = record {
  at = λ place y x stands stands_too.
      let it = met.at place x y stands_too stands in
      record { there = it.back; back = it.there; first = it.second; second = it.first };
}

module _ {E M : Type 0} (m : Means E) (tells : m.tells ≡ true) where
  -- the end at an earlier place than the newest one of the other line has shut, so the line's own end would have found that
  not_earlier : (old new other_old other_new : LineView E M) → KeepsStreams m other_old → numbers other_old.channel.streams.list ≡ numbers old.channel.streams.list →
      AtEach (KnowEachOther m) old.channel.streams.list other_old.channel.streams.list → (one : Rests m old new) → (other : Rests m other_old other_new) →
      one.place < other.place → ⊥
  not_earlier old new other_old other_new kept same met one other earlier =
      let it = met_there m old.channel.streams.list other_old.channel.streams.list same met one.place one.number one.before_it one.stood in
      let shut = (kept.streams.ended one.place (omega (arith, other.newest), λ on. λ same_place. omega (arith, earlier, other.newest, same_place))).at (one.number, it.0) it.1 in
      false≢true (sym one.other ∙ it.2.first ∙ shut)

  same_place : (old new other_old other_new : LineView E M) → KeepsStreams m old → KeepsStreams m other_old →
      numbers other_old.channel.streams.list ≡ numbers old.channel.streams.list → AtEach (KnowEachOther m) old.channel.streams.list other_old.channel.streams.list →
      (one : Rests m old new) → (other : Rests m other_old other_new) → one.place ≡ other.place
  same_place old new other_old other_new kept other_kept same met one other =
      elim (cases_lt one.place other.place) [
        | inl earlier ↦ absurd (not_earlier old new other_old other_new other_kept same met one other earlier)
        | inr rest ↦
            elim (cases_lt other.place one.place) [
              | inl later ↦
                  absurd (not_earlier other_old other_new old new kept (sym same)
                  (turned m old.channel.streams.list other_old.channel.streams.list met) other one later)
              | inr back ↦ omega (arith, rest, back)
            ]
      ]

  -- what one line wrote the other has read
  reads_all : HaveOneSplit → (old new other_old other_new : LineView E M) → KeepsStreams m new → KeepsStreams m other_new →
      (one : Rests m old new) → (other : Rests m other_old other_new) → one.number ≡ other.number → KnowEachOther m one.before_it other.before_it →
      read_bytes one.number (line_past new) ≡ written_bytes one.number (line_past other_new)
  reads_all one_split old new other_old other_new keeps other_keeps one other same met =
      all_read one_split one.number (line_past other_new) (line_past new) new.channel.conn.rest other_keeps.whole.legal keeps.whole.legal one.stream one.partial
      (sym one.got
      ∙ sym (append-nil (m.got one.before_it))
      ∙ sym (ap (λ (known : List ℕ). m.got one.before_it ++ known) one.known)
      ∙ met.there tells
      ∙ other.sent
      ∙ ap (λ (n : ℕ). written_bytes n (line_past other_new)) (sym same))

  pub drained_of_idle : HaveOneSplit → QuietIsSettled → (low high low_after high_after : LineView E M) → AreMetLines m low high →
      HasRested m low low_after → HasRested m high high_after → AreDrained (line_past low_after) (line_past high_after)
  drained_of_idle one_split settled low high low_after high_after met low_rested high_rested = record {
    stream = one.number;
    quiet = quiet;
    settled =
        settled (line_past low_after) (line_past high_after) low_rested.keeps.whole.legal high_rested.keeps.whole.legal still_honest one.number quiet;
  }
    where
      one : Rests m low low_after
      one = rests m tells low low_after low_rested

      other : Rests m high high_after
      other = rests m tells high high_after high_rested

      places : one.place ≡ other.place
      places = same_place low low_after high high_after low_rested.kept high_rested.kept met.same met.ends one other

      it : (e : E) × (slice_get high.channel.streams.list one.place ≡ Some (one.number, e)) × KnowEachOther m one.before_it e
      it = met_there m low.channel.streams.list high.channel.streams.list met.same met.ends one.place one.number one.before_it one.stood

      same_stream : ◌≡◌ {A = ℕ × E} (one.number, it.0) (other.number, other.before_it)
      same_stream =
          same_Some (one.number, it.0) (other.number, other.before_it)
          (sym it.1 ∙ ap (slice_get high.channel.streams.list) places ∙ other.stood)

      number : one.number ≡ other.number
      number = ap (λ (s : ℕ × E). s.0) same_stream

      know : KnowEachOther m one.before_it other.before_it
      know = subst (λ (s : ℕ × E). KnowEachOther m one.before_it s.1) same_stream it.2

      still_honest : IsHonest (line_past low_after) (line_past high_after)
      still_honest =
          subst (λ (past : List Entry). IsHonest past (line_past high_after)) (sym low_rested.idle.past)
          (subst (IsHonest (line_past low)) (sym high_rested.idle.past) (met.honest tells))

      quiet : IsQuiet one.number (line_past low_after) (line_past high_after)
      quiet = record {
        open_a = one.stream;
        open_b = other.stream ∙ ap Some (sym number);
        forth =
            ap (λ (n : ℕ). read_bytes n (line_past high_after)) number
            ∙ reads_all one_split high high_after low low_after high_rested.keeps low_rested.keeps other one (sym number)
            (record { there = know.back; back = know.there; first = know.second; second = know.first })
            ∙ ap (λ (n : ℕ). written_bytes n (line_past low_after)) (sym number);
        back = reads_all one_split low low_after high high_after low_rested.keeps high_rested.keeps one other number know;
        idle_a = one.owes;
        idle_b = subst (λ (n : ℕ). OwesNothing n (line_past high_after)) (sym number) other.owes;
      }
