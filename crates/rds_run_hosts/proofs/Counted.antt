-- How many streams were prepared, and with which numbers.
use Rattle.std.proofs.Common.{◌≡◌, ◌<◌, ◌≤◌, ◌+◌, ◌-◌, inl, inr, ⊎_elim, ℕ, suc, List, Vec, [], ◌∷◌, ◌++◌, Some, length, slice_get, sym, ap, subst, ◌∙◌, arith}
use Rattle.std.specs.Global.{Global}
use Rattle.std.proofs.lemmas.Bool.{cases_lt}
use Rattle.std.proofs.lemmas.List.{map-append}
use Rattle.std.proofs.lemmas.List.Elements.{All-map}
use Rattle.rds_fmap.specs.Readers.{WriterView}
use Rattle.rds_link.specs.Ends.{Means}
use Rattle.rds_link.specs.Streaming.{HasRisen, HasRisenBy}
use Rattle.rds_model.specs.Alive.{up_to}
use Rattle.rds_line.specs.Line.{LineView}
use Rattle.rds_line_channel.specs.Streams.{numbers}
use Rattle.rds_script.specs.declared.script.Placed.{Placed}
use Rattle.rds_run_rounds.specs.Connection.{AreSameConnections}
use Rattle.rds_run_rounds.specs.Grid.{EachRow, IsAt}
use Rattle.rds_run_rounds.specs.Quiet.{LinesGoOn}
use Rattle.rds_run_hosts.specs.Growing.{IsCount}
use Rattle.rds_run_hosts.specs.Preparing.{AreAllCounted, ArePrepared, HaveCounted, HaveNumbered, HaveStreamsOf}
use Rattle.rds_run_hosts.specs.Streams.{AreAllUnlessRisen, AreNumbersOf, cuts_between, streams_between}
use Rattle.rds_run_hosts.proofs.At.{stood_at}
use Rattle.rds_run_hosts.proofs.Growing.{IsHalfway}
use Rattle.rds_run_hosts.proofs.Missing.{risen_by_later, risen_by_since}

-- a count that rose once has risen later too
risen_later : (first before after : ℕ) → first ≤ before → before ≤ after → HasRisen first before → HasRisen first after
risen_later first before after low high (inl less) = inl (omega (arith, less, high))
risen_later first before after low high (inr last) = ⊎_elim
    (λ (less : first < after). inl less)
    (λ (most : after ≤ first). inr (omega (arith, most, low, high, last)))
    (cases_lt first after)

-- and from an earlier count too
risen_since : (first before after : ℕ) → first ≤ before → HasRisen before after → HasRisen first after
risen_since first before after low (inl less) = inl (omega (arith, less, low))
risen_since first before after low (inr last) = inr last

-- all of so many
pub all_later : (count first before after : ℕ) (list : List ℕ) → first ≤ before → before ≤ after → AreAllUnlessRisen count first before list →
    AreAllUnlessRisen count first after list
all_later count first before after list low high whole calm = whole (λ risen. calm (risen_later first before after low high risen))

-- one more was refused
pub all_refused : (n first before after : ℕ) (list : List ℕ) → first ≤ before → HasRisen before after → AreAllUnlessRisen (n + 1) first after list
all_refused n first before after list low risen calm = absurd (calm (risen_since first before after low risen))

-- numbers of prepared streams, counted up to a later moment
later_numbers : (count first before after : ℕ) (list : List ℕ) → first ≤ before → before ≤ after → IsCount after → AreNumbersOf count first before list →
    AreNumbersOf count first after list
later_numbers count first before after list low high small of = record {
  rising = of.rising;
  most = of.most;
  whole = all_later count first before after list low high of.whole;
  missing = risen_by_later (count - length list) first before after high small of.missing;
}

-- and those that were counted from a later moment
pub numbers_since : (count first before after : ℕ) (list : List ℕ) → first ≤ before → AreNumbersOf count before after list →
    AreNumbersOf count first after list
numbers_since count first before after list low of = record {
  rising = of.rising;
  most = of.most;
  whole = λ calm. of.whole (λ risen. calm (risen_since first before after low risen));
  missing = risen_by_since (count - length list) first before after low of.missing;
}

module _ {E : Type 0} where
  -- one more was opened
  pub all_more : (n first before after : ℕ) (list : List (ℕ × E)) (end : E) → first ≤ before → before ≤ after →
      AreAllUnlessRisen n first before (numbers list) → AreAllUnlessRisen (n + 1) first after (numbers (list ++ (n + 1, end) ∷ []))
  all_more n first before after list end low high whole calm =
      let next : n + 1 ≡ suc n = omega arith in
      map-append (λ (s : ℕ × E). s.0) list ((n + 1, end) ∷ [])
      ∙ ap (λ (ns : List ℕ). ns ++ (n + 1) ∷ []) (all_later n first before after (numbers list) low high whole calm)
      ∙ ap (λ (k : ℕ). up_to n ++ k ∷ []) next
      ∙ ap up_to (sym next)

  -- the numbers of streams that were prepared
  pub numbers_of : (m : Means E) (count first after : ℕ) (low high : List (ℕ × E)) → ArePrepared m count low high →
      AreAllUnlessRisen count first after (numbers low) → HasRisenBy (count - length (numbers low)) first after → AreNumbersOf count first after (numbers low)
  numbers_of m count first after low high prepared whole missing = record {
    rising = prepared.one_numbered;
    most = All-map (λ (n : ℕ). n ≤ count) (λ (s : ℕ × E). s.0) low prepared.one_most;
    whole = whole;
    missing = missing;
  }

  -- the streams of two hosts are those that were to be prepared
  abbrev pub IsCounted : (commands : List Placed) (first after : ℕ) → (low high : ℕ) → Vec (ℕ × E) Global → Vec (ℕ × E) Global → Type 0
  IsCounted commands first after low high one other = HaveNumbered commands first after low high one.items other.items

  -- both ends have the same numbers
  pub both_numbered : (m : Means E) (newest count first after : ℕ) (low high : List (ℕ × E)) → ArePrepared m newest low high →
      AreNumbersOf count first after (numbers low) → AreNumbersOf count first after (numbers low) × AreNumbersOf count first after (numbers high)
  both_numbered m newest count first after low high prepared of = (of, subst (AreNumbersOf count first after) (sym prepared.paired.same) of)

  -- they still are where more were opened elsewhere
  pub halfway_later : (commands : List Placed) (first before after host low : ℕ) (rows : List (List (Vec (ℕ × E) Global))) (own : List (Vec (ℕ × E) Global)) →
      first ≤ before → before ≤ after → IsCount after → IsHalfway (IsCounted commands first before) host low rows own → IsHalfway (IsCounted commands first after) host low rows own
  halfway_later commands first before after host low rows own least most small half = record {
    count = half.count;
    done = half.done;
    rest = half.rest;
    pairs = λ l place one other le at_one at_other. both_later l (suc place) one other (half.pairs l place one other le at_one at_other);
    later = half.later;
    new = λ i place one other last at_one at_other. both_later i host one other (half.new i place one other last at_one at_other);
  }
    where
      both_later : (l h : ℕ) (one other : Vec (ℕ × E) Global) → IsCounted commands first before l h one other → IsCounted commands first after l h one other
      both_later l h one other both = (
        later_numbers (streams_between l h commands) first before after (numbers one.items) least most small both.0,
        later_numbers (streams_between l h commands) first before after (numbers other.items) least most small both.1,
      )

  -- they are for commands with as many cuts between each two hosts too
  pub counted_alike : (some commands : List Placed) (first after : ℕ) (rows : List (List (Vec (ℕ × E) Global))) →
      ((low high : ℕ) → cuts_between low high some ≡ cuts_between low high commands) → AreAllCounted some first after rows → AreAllCounted commands first after rows
  counted_alike some commands first after rows alike counted low place one other le at_one at_other =
      let count = ap (λ (n : ℕ). n + 3) (alike low (suc place)) in
      let was = counted low place one other le at_one at_other in (
        subst (λ (n : ℕ). AreNumbersOf n first after (numbers one.items)) count was.0,
        subst (λ (n : ℕ). AreNumbersOf n first after (numbers other.items)) count was.1,
      )

  -- no host has any
  pub none_counted : (commands : List Placed) (first after : ℕ) → AreAllCounted {E = E} commands first after []
  none_counted commands first after low place one other le at_one at_other = absurd (cc)

  -- where each row changed so that its lines have the same streams
  pub rows_were : (Same : List (LineView E WriterView) → List (LineView E WriterView) → Type 0) (rows new : List (List (LineView E WriterView))) →
      EachRow Same rows new →
      ((old now : List (LineView E WriterView)) → Same old now → (length now ≡ length old)
      × ((place : ℕ) (line after : LineView E WriterView) → slice_get old place ≡ Some line → slice_get now place ≡ Some after →
      numbers after.channel.streams.list ≡ numbers line.channel.streams.list)) →
      (host place : ℕ) (line : LineView E WriterView) → IsAt new host place line →
      (old : LineView E WriterView) × IsAt rows host place old × (numbers line.channel.streams.list ≡ numbers old.channel.streams.list)
  rows_were Same rows new each law host place line at =
      let row = stood_at rows new host at.0 each.count at.1 in
      let same = law row.0 at.0 (each.each host row.0 at.0 row.1 at.1) in
      let there = stood_at row.0 at.0 place line same.0 at.2 in
      (there.0, (row.0, row.1, there.1), same.1 place there.0 line there.1 at.2)

  -- lines with streams of the same numbers
  pub counted_same : (commands : List Placed) (first after : ℕ) (rows new : List (List (LineView E WriterView))) →
      ((host place : ℕ) (line : LineView E WriterView) → IsAt new host place line →
      (old : LineView E WriterView) × IsAt rows host place old × (numbers line.channel.streams.list ≡ numbers old.channel.streams.list)) →
      HaveCounted commands first after rows → HaveCounted commands first after new
  counted_same commands first after rows new same counted low place one other le at_one at_other =
      let a = same low place one at_one in
      let b = same (suc place) low other at_other in
      let was = counted low place a.0 b.0 le a.1 b.1 in (
        subst (AreNumbersOf (streams_between low (suc place) commands) first after) (sym a.2) was.0,
        subst (AreNumbersOf (streams_between low (suc place) commands) first after) (sym b.2) was.1,
      )

  pub numbered_same : (streams : List (List (Vec (ℕ × E) Global))) (rows new : List (List (LineView E WriterView))) →
      ((host place : ℕ) (line : LineView E WriterView) → IsAt new host place line →
      (old : LineView E WriterView) × IsAt rows host place old × (numbers line.channel.streams.list ≡ numbers old.channel.streams.list)) →
      HaveStreamsOf streams rows → HaveStreamsOf streams new
  numbered_same streams rows new same given host place line at =
      let old = same host place line at in
      let list = given host place old.0 old.1 in
      (list.0, list.1, old.2 ∙ list.2)

  -- lines of the same connections, and lines that go on
  rows_kept : (rows new : List (List (LineView E WriterView))) → EachRow AreSameConnections rows new → (host place : ℕ) (line : LineView E WriterView) →
      IsAt new host place line →
      (old : LineView E WriterView) × IsAt rows host place old × (numbers line.channel.streams.list ≡ numbers old.channel.streams.list)
  rows_kept rows new same =
      rows_were AreSameConnections rows new same
      (λ old now kept. (kept.count, λ place line later at is. ap (λ (l : List (ℕ × E)). numbers l) (kept.each place line later at is).streams))

  pub numbered_keep : (streams : List (List (Vec (ℕ × E) Global))) (rows new : List (List (LineView E WriterView))) → EachRow AreSameConnections rows new →
      HaveStreamsOf streams rows → HaveStreamsOf streams new
  numbered_keep streams rows new same = numbered_same streams rows new (rows_kept rows new same)

  pub counted_keep : (commands : List Placed) (first after : ℕ) (rows new : List (List (LineView E WriterView))) → EachRow AreSameConnections rows new →
      HaveCounted commands first after rows → HaveCounted commands first after new
  counted_keep commands first after rows new same =
      counted_same commands first after rows new (rows_kept rows new same)

  pub counted_go_on : (commands : List Placed) (first after : ℕ) (rows new : List (List (LineView E WriterView))) → EachRow LinesGoOn rows new →
      HaveCounted commands first after rows → HaveCounted commands first after new
  counted_go_on commands first after rows new goes =
      counted_same commands first after rows new
      (rows_were LinesGoOn rows new goes (λ old now go. (go.count, λ place line later at is. (go.each place line later at is).numbers)))
