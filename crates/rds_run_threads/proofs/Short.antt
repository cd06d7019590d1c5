-- Two hosts that lack a stream, and how many faults the wire counted for the streams that their journals didn't open.
use Rattle.std.proofs.Common.{◌≡◌, ◌⊎◌, ◌<◌, ◌-◌, ◌^◌, ⊎_elim, inl, inr, ℕ, zero, suc, Bool, List, length, sym, ap, subst, ◌∙◌, arith}
use Rattle.std.proofs.lemmas.Bool.{cases_lt}
use Rattle.rds_link.specs.Streaming.{HasRisenBy}
use Rattle.rds_model.specs.declared.entry.Entry.{Entry}
use Rattle.rds_model.specs.Sums.{opens}
use Rattle.rds_host_end.specs.Risen.{StaysRisen}
use Rattle.rds_line_channel.specs.Streams.{numbers}
use Rattle.rds_line.specs.Line.{LineView}
use Rattle.rds_script.specs.declared.script.Placed.{Placed}
use Rattle.rds_run_hosts.specs.Preparing.{HaveCounted, HaveNumbered}
use Rattle.rds_run_hosts.specs.Streams.{AreNumbersOf, streams_between}
use Rattle.rds_run_rounds.specs.Causes.{HostsMissStream, LacksStream}
use Rattle.rds_run_rounds.specs.Grid.{IsAt}
use Rattle.rds_run_rounds.specs.declared.verdict.Wanted.{Wanted}
use Rattle.rds_run_threads.specs.Cuts.{IsShortBy}
use Rattle.rds_run_threads.specs.Taking.{HaveSameStreams, IsJournalOf, IsJournalOfLine}
use Rattle.rds_run_threads.proofs.Lacking.{none_left}
use Rattle.rds_run_threads.proofs.Rows.{peer_after, peer_before}

-- a count of 64 bits that rose by so many has risen by as many still
stays_by : (least before old new : ℕ) → new < 2 ^ 64 → StaysRisen old new → HasRisenBy least before old → HasRisenBy least before new
stays_by least before old new fits stays (inr last) =
    elim (stays (2 ^ 64 - 2) (omega arith) (inr last)) [
      | inl above ↦ inr (omega (arith, above, fits))
      | inr is ↦ inr is
    ]
stays_by least before zero new fits stays (inl up) = inl (omega (arith, up))
stays_by least before (suc old) new fits stays (inl up) =
    elim (cases_lt old (2 ^ 64)) [
      | inl small ↦ elim (stays old small (inl (omega arith))) [
        | inl above ↦ inl (omega (arith, up, above))
        | inr is ↦ inr is
      ]
      | inr large ↦ elim (stays (2 ^ 64 - 1) (omega arith) (inl (omega (arith, large)))) [
        | inl above ↦ absurd (omega (arith, above, fits))
        | inr is ↦ inr is
      ]
    ]

module _ {E M : Type 0} where
  -- a line that lacks a stream opened all that it was given
  short_line : (count before old new : ℕ) → new < 2 ^ 64 → StaysRisen old new → (line back : LineView E M) (own other : List Entry) →
      AreNumbersOf count before old (numbers line.channel.streams.list) → LacksStream line → IsJournalOfLine line own → IsJournalOfLine back other →
      numbers back.channel.streams.list ≡ numbers line.channel.streams.list → IsShortBy count before new own other
  short_line count before old new fits stays line back own other of lacks of_own of_other same = (
    none_left line back own other lacks of_own of_other same,
    stays_by (count - length (opens own)) before old new fits stays
        (subst (λ (n : ℕ). HasRisenBy (count - n) before old) (sym (ap length (ap opens of_own.is ∙ lacks.all))) of.missing),
  )

  -- so it is of one of two hosts
  pub short_of : (rows : List (List (LineView E M))) → HaveSameStreams rows → (tells : Bool) (wanted : List (List Wanted)) (low high : ℕ) → HostsMissStream tells wanted low high rows → (commands : List Placed) (before old new : ℕ) →
      HaveCounted commands before old rows → new < 2 ^ 64 → StaysRisen old new → (own other : List Entry) → IsJournalOf rows low high own →
      IsJournalOf rows high low other →
      IsShortBy (streams_between low high commands) before new own other ⊎ IsShortBy (streams_between low high commands) before new other own
  short_of rows streams tells wanted low high lack commands before old new counted fits stays own other is_own is_other =
      let ordered = lack.ordered in
      let next = lack.next in
      let less : low < high = omega (arith, ordered, next) in
      let of_own = is_own lack.place lack.one (peer_after low lack.place ordered ∙ sym next) lack.one_at in
      let of_other = is_other low lack.other (peer_before high low less) lack.other_at in
      let there = subst (λ (n : ℕ). IsAt rows n low lack.other) next lack.other_at in
      let same = streams low lack.place lack.one lack.other ordered lack.one_at there in
      let both =
      subst (λ (n : ℕ). HaveNumbered commands before old low n lack.one.channel.streams.list lack.other.channel.streams.list) (sym next)
      (counted low lack.place lack.one lack.other ordered lack.one_at there) in
      let count = streams_between low high commands in
      ⊎_elim (λ misses. inl (short_line count before old new fits stays lack.one lack.other own other both.0 misses.0 of_own of_other same))
      (λ misses. inr (short_line count before old new fits stays lack.other lack.one other own both.1 misses.0 of_other of_own (sym same))) lack.misses
