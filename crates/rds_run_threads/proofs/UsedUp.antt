-- What is left of the streams between hosts, and that no cut is lost.
use Rattle.std.proofs.Common.{◌≡◌, ◌≤◌, ◌+◌, ◌-◌, inl, inr, ℕ, zero, suc, Bool, All, IsSome, List, None, Option, Vec, length, refl, sym, ap, subst, ◌∙◌, arith}
use Rattle.std.specs.Global.{Global}
use Rattle.std.proofs.lemmas.Bool.{cases_lt, false_from_ne_true, false≢true}
use Rattle.std.proofs.lemmas.List.{length_push}
use Rattle.rds_link.specs.Ends.{Means}
use Rattle.rds_model.specs.declared.entry.Entry.{Entry}
use Rattle.rds_model.specs.Alive.{up_to}
use Rattle.rds_model.specs.Legal.{IsLegal}
use Rattle.rds_model.specs.Past.{open_stream}
use Rattle.rds_line_channel.specs.Streams.{numbers}
use Rattle.rds_line_channel.specs.Carried.{shuts}
use Rattle.rds_fmap.specs.Readers.{WriterView}
use Rattle.rds_line.specs.Line.{LineView, line_past}
use Rattle.rds_text.specs.Hosts.{address_of}
use Rattle.rds_script.specs.declared.script.Placed.{Placed}
use Rattle.rds_host_end.specs.Cuts.{AreCutsDone}
use Rattle.rds_run_rounds.specs.Causes.{AreClosed, AreLeftWell, HostsMissStream, IsLeftWell, known_of, refusals}
use Rattle.rds_run_rounds.specs.Connection.{AreHosts, AreSameConnections}
use Rattle.rds_run_rounds.specs.Done.{AreDone}
use Rattle.rds_run_rounds.specs.Grid.{EachRow, IsAt, OfEachPair, peer_at}
use Rattle.rds_run_rounds.specs.Quiet.{LinesGoOn}
use Rattle.rds_run_rounds.specs.declared.rounds.Rounds.{Rounds}
use Rattle.rds_run_rounds.specs.declared.rounds.Rounds.TheVariants as rounds
use Rattle.rds_run_rounds.specs.declared.verdict.Wanted.{Wanted}
use Rattle.rds_run_hosts.specs.Preparing.{AreAllKnown, HaveStreamsOf}
use Rattle.rds_run_hosts.specs.Streams.{IsKnown, cuts_between, streams_between}
use Rattle.rds_run_threads.specs.Counted.{HaveUsedUp}
use Rattle.rds_run_threads.specs.Cuts.{HasLostNoCut}
use Rattle.rds_run_threads.specs.Known.{AreKnownOf, AreOpenOrUsed, HasUsedAll, IsOpenOrUsed, MissAtFault}
use Rattle.rds_run_threads.specs.Outcome.{cuts_to}
use Rattle.rds_run_threads.specs.Taking.{HaveSameStreams}
use Rattle.rds_run_threads.proofs.At.{all_at}
use Rattle.rds_run_threads.proofs.CutsBetween.{cuts_among_both}
use Rattle.rds_run_threads.proofs.Endings.{all_ended}
use Rattle.rds_run_threads.proofs.Lacking.{cuts_either_way}
use Rattle.rds_run_threads.proofs.Rows.{host_within, peer_after, peer_before, place_within, stands}
use Rattle.rds_run_threads.proofs.SameStreams.{HaveNumbersOf, same_connections, streams_end, was_at, went_on}

-- there are so many numbers from 1 to this one
count_up : (n : ℕ) → length (up_to n) ≡ n
count_up zero = refl
count_up (suc n) =
    let rest = count_up n in
    let more = length_push (up_to n) (suc n) in
    omega (arith, rest, more)

-- a stream that is open isn't none
open_apart : (past : List Entry) → IsSome (open_stream past) → open_stream past ≡ None → ⊥
open_apart past some closed = false≢true (subst (λ (o : Option ℕ). IsSome o) closed some)

-- of two hosts it is the same whichever of them is named first
either_host : (a b : ℕ) (commands : List Placed) (own other : List Entry) → IsOpenOrUsed a b commands own other → IsOpenOrUsed b a commands own other
either_host a b commands own other (inl some) = inl some
either_host a b commands own other (inr used) =
    let same = cuts_either_way a b commands in
    let few = used.few in
    inr (record {
      closed = used.closed;
      opened = used.opened ∙ ap (λ (n : ℕ). up_to (n + 3)) same;
      few = omega (arith, same, few);
    })

-- all streams that were opened were shut or ended by a header that was refused, where all were used
used_count : (low high : ℕ) (commands : List Placed) (own other : List Entry) → IsLegal own → HasUsedAll low high commands own other →
    shuts own + refusals own ≡ cuts_between low high commands + 3
used_count low high commands own other legal used =
    sym (all_ended own legal used.closed) ∙ (ap length used.opened ∙ count_up (streams_between low high commands))

-- two hosts both of whose journals used all refused three headers at least
pub used_up : (low high : ℕ) (commands : List Placed) (own other : List Entry) → IsLegal own → IsLegal other → open_stream own ≡ None → open_stream other ≡ None →
    IsOpenOrUsed low high commands own other → IsOpenOrUsed low high commands other own → HaveUsedUp low high commands own other
used_up low high commands own other own_legal other_legal own_closed other_closed (inl some) back = absurd (open_apart own some own_closed)
used_up low high commands own other own_legal other_legal own_closed other_closed (inr used) (inl some) = absurd (open_apart other some other_closed)
used_up low high commands own other own_legal other_legal own_closed other_closed (inr used) (inr back) =
    let all = used_count low high commands own other own_legal used in
    let few = used.few in record {
      own_closed = own_closed;
      other_closed = other_closed;
      own_opened = used.opened;
      other_opened = back.opened;
      refused = omega (arith, all, few);
    }

-- no cut is lost where all that were asked for were done or the streams that the line was given are used up
pub none_lost : (host peer : ℕ) (commands : List Placed) (streams : List ℕ) (own other : List Entry) → IsLegal own →
    AreCutsDone (cuts_to host (address_of peer) commands) streams own → IsOpenOrUsed host peer commands own other →
    HasLostNoCut host peer commands (record { peer = address_of peer; past = own })
none_lost host peer commands streams own other legal (inl shut) left = record {
  enough = omega (arith, shut);
  used = λ fewer. absurd (omega (arith, fewer, shut));
}
none_lost host peer commands streams own other legal (inr done) (inl some) = absurd (open_apart own some done.1)
none_lost host peer commands streams own other legal (inr done) (inr used) =
    let all = used_count host peer commands own other legal used in
    let less = cuts_among_both host peer commands in record {
      enough = omega (arith, all, less);
      used = λ fewer. (used.opened, used.closed);
    }

module _ {E : Type 0} where
  -- a line that is left well has a stream open, or has used all that were to be prepared
  open_or_used : (tells : Bool) (known : Wanted) (low high : ℕ) (commands : List Placed) (own other : LineView E WriterView) →
      IsKnown commands low high known (numbers own.channel.streams.list) → IsLeftWell tells known own other →
      IsOpenOrUsed low high commands (line_past own) (line_past other)
  open_or_used tells known low high commands own other is (inl some) = inl some
  open_or_used tells known low high commands own other is (inr lacks) =
      elim (cases_lt (known.cuts + refusals (line_past other)) (shuts (line_past own))) [
        | inl more ↦ absurd (lacks.1 (inr (inr more)))
        | inr few ↦
            let cuts = is.cuts in
            inr (record {
              closed = lacks.0.closed;
              opened = lacks.0.all ∙ is.streams.whole (false_from_ne_true known.lacks (λ lacking. lacks.1 (inr (inl lacking))));
              few = omega (arith, few, cuts);
            })
      ]

  -- so it is of each line
  all_open_or_used : (tells : Bool) (wanted : List (List Wanted)) (commands : List Placed) (rows : List (List (LineView E WriterView))) →
      AreKnownOf wanted commands rows → HaveSameStreams rows → AreLeftWell tells wanted rows → AreOpenOrUsed commands rows
  all_open_or_used tells wanted commands rows known streams left low place one other le at_one at_other =
      let is = known low place one other le at_one at_other in
      let both = left low place one other le at_one at_other in
      let w = known_of wanted low (suc place) in (
        open_or_used tells w low (suc place) commands one other is both.0,
        open_or_used tells w low (suc place) commands other one
            (subst (λ (l : List ℕ). IsKnown commands low (suc place) w l) (sym (streams low place one other le at_one at_other)) is) both.1,
      )

  -- what is known of the streams that were prepared is known of the lines that were given them
  pub known_of_lines : (commands : List Placed) (wanted : List (List Wanted)) (streams : List (List (Vec (ℕ × E) Global))) (rows : List (List (LineView E WriterView))) →
      AreAllKnown commands wanted streams → HaveStreamsOf streams rows → AreKnownOf wanted commands rows
  known_of_lines commands wanted streams rows known given low place one other le at_one at_other =
      let list = given low place one at_one in
      subst (λ (l : List ℕ). IsKnown commands low (suc place) (known_of wanted low (suc place)) l) (sym list.2) (known low place list.0 le list.1)

  known_keep : (Same : List (LineView E WriterView) → List (LineView E WriterView) → Type 0) (rows new : List (List (LineView E WriterView))) →
      EachRow Same rows new → ((row after : List (LineView E WriterView)) → Same row after → HaveNumbersOf row after) → (wanted : List (List Wanted))
      (commands : List Placed) → AreKnownOf wanted commands rows → AreKnownOf wanted commands new
  known_keep Same rows new each law wanted commands known low place one other le at_one at_other =
      let a = was_at Same rows new each law low place one at_one in
      let b = was_at Same rows new each law (suc place) low other at_other in
      subst (λ (l : List ℕ). IsKnown commands low (suc place) (known_of wanted low (suc place)) l) (sym a.2) (known low place a.0 b.0 le a.1 b.1)

  -- and it still is once the lines were told of orders, and went on
  known_in_end : (wanted : List (List Wanted)) (commands : List Placed) (rows told after : List (List (LineView E WriterView))) →
      EachRow AreSameConnections rows told → EachRow LinesGoOn told after → AreKnownOf wanted commands rows → AreKnownOf wanted commands after
  known_in_end wanted commands rows told after kept goes known =
      known_keep LinesGoOn told after goes went_on wanted commands (known_keep AreSameConnections rows told kept same_connections wanted commands known)

  -- so two hosts that miss a stream do by these commands
  pub missed_in_end : (tells : Bool) (wanted : List (List Wanted)) (commands : List Placed) (end : Rounds) (rows told after : List (List (LineView E WriterView))) →
      EachRow AreSameConnections rows told → EachRow LinesGoOn told after → AreKnownOf wanted commands rows →
      ((low high : ℕ) → end ≡ rounds.Fault low high → HostsMissStream tells wanted low high after) → MissAtFault tells commands end after
  missed_in_end tells wanted commands end rows told after kept goes known missed low high is = record {
    wanted = wanted;
    known = known_in_end wanted commands rows told after kept goes known;
    misses = missed low high is;
  }

  -- and in the end each line has a stream open, or has used all that were to be prepared
  pub open_in_end : (m : Means E) (limit hosts : ℕ) (wanted : List (List Wanted)) (commands : List Placed) (rows told after : List (List (LineView E WriterView))) →
      AreHosts m limit hosts rows → EachRow AreSameConnections rows told → EachRow LinesGoOn told after → AreKnownOf wanted commands rows →
      AreLeftWell m.tells wanted after → AreOpenOrUsed commands after
  open_in_end m limit hosts wanted commands rows told after are kept goes known left =
      all_open_or_used m.tells wanted commands after (known_in_end wanted commands rows told after kept goes known)
      (streams_end m limit hosts rows told after are kept goes) left

  module _ (m : Means E) (limit hosts : ℕ) (rows : List (List (LineView E WriterView))) (done : AreDone m limit hosts rows) (commands : List Placed)
      (left : AreOpenOrUsed commands rows) where
    -- each line's journal is legal, and so left
    pub record IsLineLeft (host peer : ℕ) (line : LineView E WriterView) : Type 0 where
      pub other : List Entry
      pub legal : IsLegal (line_past line)
      pub is : IsOpenOrUsed host peer commands (line_past line) other

    pub left_at : (host place : ℕ) (line : LineView E WriterView) → IsAt rows host place line → IsLineLeft host (peer_at host place) line
    left_at host place line at =
        let known = host_within hosts rows done.shape host at.0 at.1 in
        let within = place_within hosts rows done.shape host place line at in
        elim (cases_lt place host) [
          | inl lower ↦
              let other = stands hosts rows done.shape place (host - 1) (omega (arith, known, lower)) (omega (arith, known, lower)) in
              let is : suc (host - 1) ≡ host = omega (arith, lower) in
              let here = subst (λ (h : ℕ). IsAt rows h place line) (sym is) at in
              let le : place ≤ host - 1 = omega (arith, lower) in
              let both = left place (host - 1) other.0 line le other.1 here in
              let own = either_host place (suc (host - 1)) commands (line_past line) (line_past other.0) both.1 in record {
                other = line_past other.0;
                legal = (done.sound place (host - 1) other.0 line le other.1 here).sound.high_legal.legal;
                is = subst (λ (p : ℕ). IsOpenOrUsed host p commands (line_past line) (line_past other.0)) (sym (peer_before host place lower))
                    (subst (λ (h : ℕ). IsOpenOrUsed h place commands (line_past line) (line_past other.0)) is own);
              }
          | inr higher ↦
              let other = stands hosts rows done.shape (suc place) host within (omega (arith, higher, within)) in
              let both = left host place line other.0 higher at other.1 in record {
                other = line_past other.0;
                legal = (done.sound host place line other.0 higher at other.1).sound.low_legal.legal;
                is = subst (λ (p : ℕ). IsOpenOrUsed host p commands (line_past line) (line_past other.0)) (sym (peer_after host place higher)) both.0;
              }
        ]

    -- between each two hosts none of whose journals has a stream open all are used up
    pub all_used_up : All AreClosed rows →
        OfEachPair (λ low high (one : LineView E WriterView) (other : LineView E WriterView). HaveUsedUp low high commands (line_past one) (line_past other)) rows
    all_used_up closed low place one other le at_one at_other =
        let both = left low place one other le at_one at_other in
        let sound = (done.sound low place one other le at_one at_other).sound in
        used_up low (suc place) commands (line_past one) (line_past other) sound.low_legal.legal sound.high_legal.legal (closed_at low place one at_one)
        (closed_at (suc place) low other at_other) both.0 both.1
      where
        closed_at : (host place : ℕ) (line : LineView E WriterView) → IsAt rows host place line → open_stream (line_past line) ≡ None
        closed_at host place line at =
            all_at (λ (l : LineView E WriterView). open_stream (line_past l) ≡ None) at.0 place line (all_at AreClosed rows host at.0 closed at.1) at.2
