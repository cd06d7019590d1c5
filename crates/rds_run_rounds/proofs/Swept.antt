-- What the lines of a run are after a round of each two hosts.
use Rattle.std.proofs.Common.{◌≡◌, ◌⊎◌, inl, inr, ℕ, suc, ◌<◌, ◌≤◌, ◌-◌, Bool, true, List, [], length, length-append, max, min, Some, slice_get, sym, ap, subst, ◌∙◌, arith}
use Rattle.std.proofs.lemmas.Option.{same_Some, slice_get_within}
use Rattle.std.specs.List.{All}
use Rattle.rds_fmap.specs.Readers.{WriterView}
use Rattle.rds_mail.specs.Learning.{AllGot}
use Rattle.rds_model.specs.Honest.{Begins}
use Rattle.rds_link.specs.Ends.{Means}
use Rattle.rds_line.specs.Line.{LineView, line_past}
use Rattle.rds_run_rounds.specs.Causes.{AreLeftWell, HasRoomForTwo, HaveRoom, HostsMissStream, IsBefore, NoneEndsBefore, OneMissesStream, OweNothing, OwesNothing, known_of}
use Rattle.rds_run_rounds.specs.Connection.{AreConnected, AreHosts, IsFullAt, IsFullHost}
use Rattle.rds_run_rounds.specs.Done.{AreDone}
use Rattle.rds_run_rounds.specs.Drained.{AreDrainedLines}
use Rattle.rds_run_rounds.specs.Grid.{AreRows, EachRow, IsAt, peer_at}
use Rattle.rds_run_rounds.specs.Quiet.{AreQuiet, LineGoesOn, LinesGoOn}
use Rattle.rds_run_rounds.specs.Sweep.{AreConnectedRows, AreSwept, AreWritten, GoOnTogether, HaveGoneOn, HaveHadRound, IsAmong, IsPairBelow, MissStreamAt, Passed}
use Rattle.rds_run_rounds.specs.declared.verdict.Round.{Round}
use Rattle.rds_run_rounds.specs.declared.verdict.Round.TheVariants as verdict
use Rattle.rds_run_rounds.specs.declared.verdict.Wanted.{Wanted}
use Rattle.rds_run_rounds.proofs.Going.{had_room, stood_at}
use Rattle.rds_run_rounds.proofs.Partners.{all_at, all_of, has_partner, is_there, rows_keep}
use Rattle.rds_run_rounds.proofs.Places.{same_at, was_at}

module _ {E : Type 0} (m : Means E) where
  -- the two lines of two hosts in their rows
  pub connected_rows : (limit hosts : ℕ) (rows : List (List (LineView E WriterView))) → AreHosts m limit hosts rows → (low high : ℕ)
      (lower higher : List (LineView E WriterView)) → low < high → high < length rows → slice_get rows low ≡ Some lower → slice_get rows high ≡ Some higher →
      AreConnectedRows m limit low high lower higher
  connected_rows limit hosts rows are low high lower higher less within lower_at higher_at =
      let top : suc (high - 1) ≡ high = omega (arith, less) in
      let one = is_there hosts rows are.shape low (high - 1) (omega (arith, less, within, are.shape.count)) (omega (arith, less, within, are.shape.count)) in
      let other = is_there hosts rows are.shape high low (omega (arith, within, are.shape.count)) (omega (arith, less, within, are.shape.count)) in
      record {
        one = one.0;
        other = other.0;
        one_at = ap (λ (row : List (LineView E WriterView)). slice_get row (high - 1)) (same_Some lower one.1.0 (sym lower_at ∙ one.1.1)) ∙ one.1.2;
        other_at = ap (λ (row : List (LineView E WriterView)). slice_get row low) (same_Some higher other.1.0 (sym higher_at ∙ other.1.1)) ∙ other.1.2;
        connected =
            subst (λ (n : ℕ). AreConnected m limit low n one.0 other.0) top
            (are.connected low (high - 1) one.0 other.0 (omega (arith, less)) one.1 (subst (λ (n : ℕ). IsAt rows n low other.0) (sym top) other.1));
      }

module _ {E : Type 0} (m : Means E) (wanted : List (List Wanted)) where
  -- the two lines of a pair as they were, and what became of them
  record CameFrom (In Idle : Type 0) (low place : ℕ) (old : List (List (LineView E WriterView))) (x y : LineView E WriterView) : Type 0 where
    pub one : LineView E WriterView
    pub other : LineView E WriterView
    pub one_at : IsAt old low place one
    pub other_at : IsAt old (suc place) low other
    pub together : GoOnTogether m low (suc place) one other x y
    pub round : In → HaveHadRound m (known_of wanted low (suc place)) Idle x y

  module _ (In : ℕ → ℕ → Type 0) (came : Round) (old new : List (List (LineView E WriterView))) (swept : AreSwept m wanted In came old new) where
    came_from : (low place : ℕ) (x y : LineView E WriterView) → low ≤ place → IsAt new low place x → IsAt new (suc place) low y →
        CameFrom (In low place) (came ≡ verdict.Idle) low place old x y
    came_from low place x y ordered x_at y_at =
        let one = was_at old new swept.lengths low place x x_at in
        let other = was_at old new swept.lengths (suc place) low y y_at in
        let after = swept.pair low place one.0 other.0 ordered one.1 other.1 in
        let x_is = same_at new low place after.one_after x after.one_at x_at in
        let y_is = same_at new (suc place) low after.other_after y after.other_at y_at in
        record {
          one = one.0;
          other = other.0;
          one_at = one.1;
          other_at = other.1;
          together =
              subst (λ (l : LineView E WriterView). GoOnTogether m low (suc place) one.0 other.0 l y) x_is
              (subst (λ (l : LineView E WriterView). GoOnTogether m low (suc place) one.0 other.0 after.one_after l) y_is after.together);
          round = λ among.
              subst (λ (l : LineView E WriterView). HaveHadRound m (known_of wanted low (suc place)) (came ≡ verdict.Idle) l y) x_is
              (subst (λ (l : LineView E WriterView). HaveHadRound m (known_of wanted low (suc place)) (came ≡ verdict.Idle) after.one_after l) y_is (after.round among));
        }

    pub hosts_swept : (limit hosts : ℕ) → AreHosts m limit hosts old → AreHosts m limit hosts new
    hosts_swept limit hosts are = record {
      few = are.few;
      shape = rows_keep hosts old new are.shape swept.lengths;
      connected = λ low place x y ordered x_at y_at.
          let was = came_from low place x y ordered x_at y_at in
          was.together.connected limit (are.connected low place was.one was.other ordered was.one_at was.other_at);
    }

    -- no line of hosts before two at which the rounds stopped ended them
    lowest_swept : (first second : ℕ) → ((low high : ℕ) → IsBefore low high first second → Passed came low high) →
        ((low place : ℕ) → low ≤ place → suc place < length new → In low place) → NoneEndsBefore m.tells wanted first second old new
    lowest_swept first second passed all = record {
      miss = λ low place one other one_after other_after ordered before one_at other_at one_now other_now.
          let after = swept.pair low place one other ordered one_at other_at in
          let gone = gone_on low place one other ordered before one_at other_at in
          let w = known_of wanted low (suc place) in
          let one_is = same_at new low place after.one_after one_after after.one_at one_now in
          let other_is = same_at new (suc place) low after.other_after other_after after.other_at other_now in
          let both =
          subst (λ (l : LineView E WriterView). HaveGoneOn m.tells w one other l other_after) one_is
          (subst (λ (l : LineView E WriterView). HaveGoneOn m.tells w one other after.one_after l) other_is gone) in
          (both.one_misses, both.other_misses);
      full = λ low place one other ordered before one_at other_at.
          let gone = gone_on low place one other ordered before one_at other_at in
          (gone.one_room, gone.other_room);
    }
      where
        gone_on : (low place : ℕ) (one other : LineView E WriterView) → (ordered : low ≤ place) → IsBefore low (suc place) first second →
            (one_at : IsAt old low place one) → (other_at : IsAt old (suc place) low other) →
            HaveGoneOn m.tells (known_of wanted low (suc place)) one other (swept.pair low place one other ordered one_at other_at).one_after
            (swept.pair low place one other ordered one_at other_at).other_after
        gone_on low place one other ordered before one_at other_at =
            let after = swept.pair low place one other ordered one_at other_at in
            after.gone_on (all low place ordered (slice_get_within new (suc place) after.other_at.0 after.other_at.1)) (passed low (suc place) before)

    -- so it is where the rounds came to a fault, or to a full journal
    pub lowest_fault : (first second : ℕ) → came ≡ verdict.Fault first second →
        ((low place : ℕ) → low ≤ place → suc place < length new → In low place) → NoneEndsBefore m.tells wanted first second old new
    lowest_fault first second is = lowest_swept first second (λ low high before. subst (λ (r : Round). Passed r low high) (sym is) before)

    pub lowest_spent : (host peer entries : ℕ) → came ≡ verdict.Spent host peer entries →
        ((low place : ℕ) → low ≤ place → suc place < length new → In low place) →
        NoneEndsBefore m.tells wanted (min host peer) (max host peer) old new
    lowest_spent host peer entries is =
        lowest_swept (min host peer) (max host peer) (λ low high before. subst (λ (r : Round). Passed r low high) (sym is) before)

    -- each line goes on
    line_goes : (hosts : ℕ) → AreRows hosts new → (host place : ℕ) (line after : LineView E WriterView) → IsAt old host place line → IsAt new host place after →
        LineGoesOn line after
    line_goes hosts are host place line after was is = by_partner (has_partner hosts new are host place after is)
      where
        by_partner :
            ((y : LineView E WriterView) × (host ≤ place) × IsAt new (suc place) host y)
            ⊎ ((p : ℕ) × (y : LineView E WriterView) × (host ≡ suc p) × (place ≤ p) × IsAt new place p y) → LineGoesOn line after
        by_partner (inl found) =
            let from = came_from host place after found.0 found.1 is found.2 in
            subst (λ (l : LineView E WriterView). LineGoesOn l after) (same_at old host place from.one line from.one_at was) from.together.one_goes
        by_partner (inr found) =
            let here = subst (λ (n : ℕ). IsAt new n place after) found.2 is in
            let from = came_from place found.0 found.1 after found.3 found.4 here in
            subst (λ (l : LineView E WriterView). LineGoesOn l after)
            (same_at old (suc found.0) place from.other line from.other_at (subst (λ (n : ℕ). IsAt old n place line) found.2 was)) from.together.other_goes

    pub goes_swept : (limit hosts : ℕ) → AreHosts m limit hosts old → EachRow LinesGoOn old new
    goes_swept limit hosts are = record {
      count = swept.lengths.count;
      each = λ host row after stood stands. record {
        count = swept.lengths.each host row after stood stands;
        each = λ place line is at_line at_is.
            line_goes hosts (rows_keep hosts old new are.shape swept.lengths) host place line is (row, stood, at_line) (after, stands, at_is);
      };
    }

    module _ (limit hosts : ℕ) (are : AreHosts m limit hosts old) (all : (low place : ℕ) → low ≤ place → suc place < length new → In low place) where
      still_rows : AreRows hosts new
      still_rows = rows_keep hosts old new are.shape swept.lengths

      had_round : (low place : ℕ) (x y : LineView E WriterView) → low ≤ place → IsAt new low place x → IsAt new (suc place) low y →
          HaveHadRound m (known_of wanted low (suc place)) (came ≡ verdict.Idle) x y
      had_round low place x y ordered x_at y_at =
          (came_from low place x y ordered x_at y_at).round (all low place ordered (slice_get_within new (suc place) y_at.0 y_at.1))

      pub done_swept : AreDone m limit hosts new
      done_swept = record {
        few = are.few;
        shape = still_rows;
        sound = λ low place x y ordered x_at y_at. record {
          hosts = ((hosts_swept limit hosts are).connected low place x y ordered x_at y_at).hosts;
          sound = (had_round low place x y ordered x_at y_at).sound;
        };
      }

      line_quiet : came ≡ verdict.Idle → (host place : ℕ) (x : LineView E WriterView) → IsAt new host place x → AllGot x.orders
      line_quiet idle host place x at = by_partner (has_partner hosts new still_rows host place x at)
        where
          by_partner :
              ((y : LineView E WriterView) × (host ≤ place) × IsAt new (suc place) host y)
              ⊎ ((p : ℕ) × (y : LineView E WriterView) × (host ≡ suc p) × (place ≤ p) × IsAt new place p y) → AllGot x.orders
          by_partner (inl found) = ((had_round host place x found.0 found.1 at found.2).quiet idle).0
          by_partner (inr found) =
              ((had_round place found.0 found.1 x found.3 found.4 (subst (λ (n : ℕ). IsAt new n place x) found.2 at)).quiet idle).1

      pub quiet_swept : came ≡ verdict.Idle → All AreQuiet new
      quiet_swept idle = all_of AreQuiet new (λ host row stands. λ place line at. line_quiet idle host place line (row, stands, at))

      line_room : came ≡ verdict.Idle → (host place : ℕ) (x : LineView E WriterView) → IsAt new host place x → HasRoomForTwo x
      line_room idle host place x at = by_partner (has_partner hosts new still_rows host place x at)
        where
          by_partner :
              ((y : LineView E WriterView) × (host ≤ place) × IsAt new (suc place) host y)
              ⊎ ((p : ℕ) × (y : LineView E WriterView) × (host ≡ suc p) × (place ≤ p) × IsAt new place p y) → HasRoomForTwo x
          by_partner (inl found) = ((had_round host place x found.0 found.1 at found.2).room idle).0
          by_partner (inr found) =
              ((had_round place found.0 found.1 x found.3 found.4 (subst (λ (n : ℕ). IsAt new n place x) found.2 at)).room idle).1

      pub room_swept : came ≡ verdict.Idle → All HaveRoom new
      room_swept idle =
          all_of HaveRoom new (λ host row stands. all_of HasRoomForTwo row (λ place line at. line_room idle host place line (row, stands, at)))

      -- what a line has to write, where all of it is written
      out_of : All AreWritten new → (host at : ℕ) (line : LineView E WriterView) → IsAt new host at line → line.channel.out ≡ []
      out_of written host at line is =
          all_at (λ (l : LineView E WriterView). l.channel.out ≡ []) is.0 at line (all_at AreWritten new host is.0 written is.1) is.2

      line_owes : came ≡ verdict.Idle → (host place : ℕ) (x : LineView E WriterView) → IsAt new host place x → x.channel.out ≡ [] → OwesNothing (line_past x)
      line_owes idle host place x at = by_partner (has_partner hosts new still_rows host place x at)
        where
          by_partner :
              ((y : LineView E WriterView) × (host ≤ place) × IsAt new (suc place) host y)
              ⊎ ((p : ℕ) × (y : LineView E WriterView) × (host ≡ suc p) × (place ≤ p) × IsAt new place p y) → x.channel.out ≡ [] → OwesNothing (line_past x)
          by_partner (inl found) = ((had_round host place x found.0 found.1 at found.2).owes idle).0
          by_partner (inr found) =
              ((had_round place found.0 found.1 x found.3 found.4 (subst (λ (n : ℕ). IsAt new n place x) found.2 at)).owes idle).1

      pub owes_swept : came ≡ verdict.Idle → All AreWritten new → All OweNothing new
      owes_swept idle written =
          all_of OweNothing new
          (λ host row stands.
          all_of (λ (l : LineView E WriterView). OwesNothing (line_past l)) row
          (λ place line at. line_owes idle host place line (row, stands, at) (out_of written host place line (row, stands, at))))

      pub left_swept : came ≡ verdict.Idle → AreLeftWell m.tells wanted new
      left_swept idle low place x y ordered x_at y_at = (had_round low place x y ordered x_at y_at).left idle

      pub drained_swept : m.tells ≡ true → came ≡ verdict.Idle → All AreWritten new → AreDrainedLines new
      drained_swept tells idle written low place x y ordered x_at y_at =
          (had_round low place x y ordered x_at y_at).drained tells idle (out_of written low place x x_at) (out_of written (suc place) low y y_at)

-- each pair is among those of a round of all hosts
pub all_pairs : {E : Type 0} (m : Means E) (wanted : List (List Wanted)) (hosts : ℕ) (came : Round) (old new : List (List (LineView E WriterView))) → AreSwept m wanted (IsPairBelow hosts hosts) came old new →
    length old ≡ hosts → (low place : ℕ) → low ≤ place → suc place < length new → IsPairBelow hosts hosts low place
all_pairs m wanted hosts came old new swept full low place ordered within =
    (omega (arith, ordered, within, swept.lengths.count, full), omega (arith, within, swept.lengths.count, full))

-- the host with a full journal
pub full_host : {E : Type 0} (In : ℕ → ℕ → Type 0) (host peer entries : ℕ) (rows : List (List (LineView E WriterView))) →
    IsAmong In (IsFullAt host peer entries) rows → IsFullHost host peer entries rows
full_host {E} In host peer entries rows found = by_line found.holds
  where
    by_line : IsFullAt host peer entries found.low (suc found.place) found.one found.other → IsFullHost host peer entries rows
    by_line (inl low) = record {
      place = found.place;
      line = found.one;
      at = subst (λ (n : ℕ). IsAt rows n found.place found.one) (sym low.0) found.one_at;
      to = ap (λ (n : ℕ). peer_at n found.place) low.0 ∙ higher ∙ sym low.1;
      full = low.2;
    }
      where
        higher : peer_at found.low found.place ≡ suc found.place
        higher = grind (arith, found.ordered)
    by_line (inr high) = record {
      place = found.low;
      line = found.other;
      at = subst (λ (n : ℕ). IsAt rows n found.low found.other) (sym high.0) found.other_at;
      to = ap (λ (n : ℕ). peer_at n found.low) high.0 ∙ lower ∙ sym high.1;
      full = high.2;
    }
      where
        lower : peer_at (suc found.place) found.low ≡ found.low
        lower = grind (arith, found.ordered)

-- the two hosts that lack a stream
pub missing_hosts : {E : Type 0} (tells : Bool) (wanted : List (List Wanted)) (In : ℕ → ℕ → Type 0) (first second : ℕ) (rows : List (List (LineView E WriterView))) →
    IsAmong In (λ low high. MissStreamAt tells (known_of wanted low high) first second low high) rows → HostsMissStream tells wanted first second rows
missing_hosts {E} tells wanted In first second rows found =
    let low_is = found.holds.0 in
    let high_is = found.holds.1 in
    record {
      place = found.place;
      one = found.one;
      other = found.other;
      ordered = omega (arith, found.ordered, low_is);
      next = high_is;
      one_at = subst (λ (n : ℕ). IsAt rows n found.place found.one) (sym low_is) found.one_at;
      other_at =
          subst (λ (n : ℕ). IsAt rows n first found.other) (sym high_is) (subst (λ (n : ℕ). IsAt rows (suc found.place) n found.other) (sym low_is) found.other_at);
      misses =
          subst (λ (n : ℕ). OneMissesStream tells (known_of wanted first n) found.one found.other) (sym high_is)
          (subst (λ (n : ℕ). OneMissesStream tells (known_of wanted n (suc found.place)) found.one found.other) (sym low_is) found.holds.2);
    }

-- they are two of the hosts
pub missing_within : {E : Type 0} (tells : Bool) (wanted : List (List Wanted)) (low high : ℕ) (rows : List (List (LineView E WriterView))) →
    HostsMissStream tells wanted low high rows → (low < high) × (high < length rows)
missing_within tells wanted low high rows miss = (omega (arith, miss.ordered, miss.next), slice_get_within rows high miss.other_at.0 miss.other_at.1)

-- a list is no longer than one that begins with it
no_longer : {T : Type 0} (x y : List T) (n : ℕ) → Begins x y → length y < n → length x < n
no_longer x y n begins less =
    let is = ap length begins.1 in
    let both = length-append x begins.0 in
    omega (arith, is, both, less)

module _ {E : Type 0} where
  -- what a line goes on as
  goes_to : (old new : List (List (LineView E WriterView))) → EachRow LinesGoOn old new → (host place : ℕ) (x : LineView E WriterView) → IsAt old host place x →
      (y : LineView E WriterView) × IsAt new host place y × LineGoesOn x y
  goes_to old new goes host place x (row, at_row, at) =
      let after = stood_at new old host row (sym goes.count) at_row in
      let lines = goes.each host row after.0 at_row after.1 in
      let y = stood_at after.0 row place x (sym lines.count) at in
      (y.0, (after.0, after.1, y.1), lines.each place x y.0 at y.1)

  -- an order that was taken since was taken since an earlier time, and what had room had room before
  pub lowest_since : (tells : Bool) (wanted : List (List Wanted)) (first second : ℕ) (old middle new : List (List (LineView E WriterView))) →
      EachRow LinesGoOn old middle → NoneEndsBefore tells wanted first second middle new → NoneEndsBefore tells wanted first second old new
  lowest_since tells wanted first second old middle new goes none = record {
    miss = λ low place one other one_after other_after ordered before one_at other_at one_now other_now.
        let x = goes_to old middle goes low place one one_at in
        let y = goes_to old middle goes (suc place) low other other_at in
        let miss = none.miss low place x.0 y.0 one_after other_after ordered before x.1 y.1 one_now other_now in (
          λ misses. no_longer one.orders.got x.0.orders.got (length one_after.orders.got) x.2.got (miss.0 misses),
          λ misses. no_longer other.orders.got y.0.orders.got (length other_after.orders.got) y.2.got (miss.1 misses),
        );
    full = λ low place one other ordered before one_at other_at.
        let x = goes_to old middle goes low place one one_at in
        let y = goes_to old middle goes (suc place) low other other_at in
        let room = none.full low place x.0 y.0 ordered before x.1 y.1 in
        (had_room one x.0 x.2 room.0, had_room other y.0 y.2 room.1);
  }
