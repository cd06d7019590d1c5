-- How lines are given their streams.
use Rattle.std.proofs.Common.{◌≡◌, ⊎_elim, ℕ, suc, ◌+◌, ◌<◌, ◌≤◌, List, Vec, [], ◌∷◌, All, Some, length, set, get_or, slice_get, refl, sym, ap, subst, ◌∙◌, arith}
use Rattle.std.proofs.lemmas.List.{length-set}
use Rattle.std.proofs.lemmas.Option.{same_Some, slice_get_within, slice_get-get_or}
use Rattle.std.specs.Global.{Global}
use Rattle.rds_fmap.specs.Readers.{WriterView}
use Rattle.rds_link.specs.Ends.{Means}
use Rattle.rds_line_channel.specs.Channel.{ChannelView, IsNewChannel}
use Rattle.rds_line_channel.specs.Streams.{numbers}
use Rattle.rds_line.specs.Line.{LineView}
use Rattle.rds_text.specs.Hosts.{address_of}
use Rattle.rds_script.specs.declared.script.Placed.{Placed}
use Rattle.rds_run_callers.specs.Places.{CallerView, Place}
use Rattle.rds_host.specs.Held.{ends_in, ends_of, ends_of_all}
use Rattle.rds_host.specs.Keeping.{LineKeeps, LinesKeep}
use Rattle.rds_run_rounds.specs.Connection.{AreHosts, ArePaired}
use Rattle.rds_run_rounds.specs.Grid.{IsAt, peer_at}
use Rattle.rds_run_settling.specs.Tied.{AreTied}
use Rattle.rds_run_hosts.specs.Giving.{AreGiven, HasNewLines, HaveNewLines, with_streams}
use Rattle.rds_run_hosts.specs.Held.{ends_of_row, ends_prepared}
use Rattle.rds_run_hosts.specs.HeldLaws.{as_many_each}
use Rattle.rds_run_hosts.specs.Parties.{AreParties, HaveNotLooked}
use Rattle.rds_run_hosts.specs.Preparing.{AreAllCounted, AreAllPrepared, HaveCounted, HaveNumbered, HaveStreamsOf}
use Rattle.rds_run_hosts.proofs.At.{at_set_any, behind_set, some_at, stood_at}
use Rattle.rds_run_hosts.proofs.Made.{higher_peer, lower_peer, row_size}

-- this was done with each thing before a place, and what stands in that place of another list; the other things are as they were
pub record AreDoneBelow {X Y : Type 0} (Done : X → Y → Y → Type 0) (n : ℕ) (xs : List X) (old new : List Y) : Type 0 where
  pub count : length new ≡ length old
  pub done : (i : ℕ) (x : X) (y z : Y) → i < n → slice_get xs i ≡ Some x → slice_get old i ≡ Some y → slice_get new i ≡ Some z → Done x y z
  pub rest : (i : ℕ) → n ≤ i → slice_get new i ≡ slice_get old i

module _ {X Y : Type 0} (Done : X → Y → Y → Type 0) (xs : List X) (old : List Y) where
  pub none_done : AreDoneBelow Done 0 xs old old
  none_done = record { count = refl; done = λ i x y z below at stood stands. absurd (omega (arith, below)); rest = λ i above. refl }

  pub one_done : (n : ℕ) (new : List Y) (x : X) (y z : Y) → AreDoneBelow Done n xs old new → slice_get xs n ≡ Some x → slice_get new n ≡ Some y →
      Done x y z → AreDoneBelow Done (n + 1) xs old (set new n z)
  one_done n new x y z before at_x at_y done = record {
    count = length-set new n z ∙ before.count;
    done = λ i a b c below at stood stands. ⊎_elim
        (λ here.
        let is_x : x ≡ a = same_Some x a (sym at_x ∙ ap (slice_get xs) (sym here.0) ∙ at) in
        let is_y : y ≡ b = same_Some y b (sym at_y ∙ before.rest n (omega arith) ∙ ap (slice_get old) (sym here.0) ∙ stood) in
        subst (λ k. Done k b c) is_x (subst (λ k. Done x k c) is_y (subst (λ k. Done x y k) (sym here.1) done)))
        (λ there. let ne = there.0 in before.done i a b c (omega (arith, below, ne)) at stood there.1)
        (at_set_any new n z i c stands);
    rest = λ i above. behind_set new n z i (omega (arith, above)) ∙ before.rest i (omega (arith, above));
  }

abbrev pub StreamsOf : Type 0 → Type 0
StreamsOf E = Vec (ℕ × E) Global

module _ {E : Type 0} where
  abbrev pub IsGiven : StreamsOf E → LineView E WriterView → LineView E WriterView → Type 0
  IsGiven list old new = new ≡ with_streams old list.items

  -- new lines have new channels
  pub new_channels : (limit hosts host : ℕ) (lines : List (LineView E WriterView)) → HasNewLines limit hosts host lines →
      All (λ (line : LineView E WriterView). IsNewChannel line.channel) lines
  new_channels limit hosts host lines new place d within =
      let is = (new.each place (get_or lines place d) (slice_get-get_or lines place d within)).0 in
      subst (λ (c : ChannelView E). IsNewChannel c) (sym is) refl

  module _ (streams : List (StreamsOf E)) (old new : List (LineView E WriterView)) where
    pub all_given : AreDoneBelow IsGiven (length streams) streams old new → AreGiven streams old new
    all_given done = record {
      count = done.count;
      each = λ place list line after at. done.done place list line after (slice_get_within streams place list at) at;
    }

    -- lines that were given streams are kept
    pub given_keep : length streams ≡ length old → ((lines : List (LineView E WriterView)) → LinesKeep lines lines) → AreGiven streams old new →
        LinesKeep old new
    given_keep size same given = record {
      count = given.count;
      each = λ place line after stood stands.
          let list = some_at streams place (let within = slice_get_within old place line stood in omega (arith, within, size)) in
          let keeps = (same (line ∷ [])).each 0 line line refl refl in
          subst (λ (l : LineView E WriterView). LineKeeps line l) (sym (given.each place list.0 line after list.1 stood stands))
          (record {
            peer = keeps.peer;
            mail = keeps.mail;
            joined = keeps.joined;
            boxes = keeps.boxes;
            ports = keeps.ports;
            words = keeps.words;
            seats = keeps.seats;
            pair = keeps.pair;
          });
    }

  -- a host's lines were given their streams, and are kept
  pub record IsRowGiven (streams : List (StreamsOf E)) (old new : List (LineView E WriterView)) : Type 0 where
    pub given : AreGiven streams old new
    pub keeps : LinesKeep old new

  module _ (m : Means E) (hosts : ℕ) (streams : List (List (StreamsOf E))) (old new : List (List (LineView E WriterView)))
      (prepared : AreAllPrepared m hosts streams) (done : AreDoneBelow IsRowGiven (length streams) streams old new) where
    -- the row of a host was given streams
    row_at : length old ≡ hosts → (host : ℕ) (after : List (LineView E WriterView)) → slice_get new host ≡ Some after →
        (lists : List (StreamsOf E)) × (row : List (LineView E WriterView)) × (slice_get streams host ≡ Some lists) × (slice_get old host ≡ Some row)
        × IsRowGiven lists row after
    row_at size host after at =
        let row = stood_at old new host after done.count at in
        let within = slice_get_within old host row.0 row.1 in
        let count = prepared.shape.count in
        let lists = some_at streams host (omega (arith, within, count, size)) in
        (lists.0, row.0, lists.1, row.1, done.done host lists.0 row.0 after (slice_get_within streams host lists.0 lists.1) lists.1 row.1 at)

    pub given_parties : ((places : List Place) (lines after : List (LineView E WriterView)) → AreTied places lines → LinesKeep lines after → AreTied places after) →
        (callers : List CallerView) (all : ℕ) → length old ≡ hosts → AreParties all callers old → AreParties all callers new
    given_parties keeps callers all size were = record {
      callers_count = were.callers_count;
      rows_count = done.count ∙ were.rows_count;
      tied = λ host caller after at_caller at.
          let row = row_at size host after at in
          keeps caller.places row.1 after (were.tied host caller row.1 at_caller row.3) row.4.keeps;
    }

    module _ (limit : ℕ) (were : HaveNewLines limit hosts old) where
      row_length : (host : ℕ) (after : List (LineView E WriterView)) → slice_get new host ≡ Some after → suc (length after) ≡ hosts
      row_length host after at =
          let row = row_at were.count host after at in
          ap suc row.4.given.count ∙ (were.each host row.1 row.3).count

      -- the line at a place, and the streams that it was given
      line_at : (host place : ℕ) (line : LineView E WriterView) → IsAt new host place line →
          (list : StreamsOf E) × IsAt streams host place list × (line.channel.streams.list ≡ list.items) × (line.channel.conn.log.limit ≡ limit)
          × (line.channel.conn.peer ≡ address_of (peer_at host place)) × (line.ports.view.steps ≡ [])
      line_at host place line at =
          let row = row_at were.count host at.0 at.1 in
          let stood = stood_at row.1 at.0 place line row.4.given.count at.2 in
          let size = (were.each host row.1 row.3).count in
          let same = row_size hosts streams prepared.shape host row.0 row.2 in
          let within = slice_get_within row.1 place stood.0 stood.1 in
          let list = some_at row.0 place (omega (arith, size, same, within)) in
          let was = (were.each host row.1 row.3).each place stood.0 stood.1 in
          let is = row.4.given.each place list.0 stood.0 line list.1 stood.1 at.2 in (
            list.0,
            (row.0, row.2, list.1),
            ap (λ (l : LineView E WriterView). l.channel.streams.list) is,
            ap (λ (l : LineView E WriterView). l.channel.conn.log.limit) is ∙ ap (λ (c : ChannelView E). c.conn.log.limit) was.0,
            ap (λ (l : LineView E WriterView). l.channel.conn.peer) is ∙ ap (λ (c : ChannelView E). c.conn.peer) was.0,
            ap (λ (l : LineView E WriterView). l.ports.view.steps) is ∙ was.1,
          )

      pub given_looks : HaveNotLooked new
      given_looks host place line at = (line_at host place line at).5

      pub given_hosts : hosts ≤ 8 → AreHosts m limit hosts new
      given_hosts few = record {
        few = few;
        shape = record {
          count = done.count ∙ were.count;
          each = λ host d within. row_length host (get_or new host d) (slice_get-get_or new host d within);
        };
        connected = λ low place one other le at_one at_other.
            let a = line_at low place one at_one in
            let b = line_at (suc place) low other at_other in
            let pair = prepared.pairs low place a.0 b.0 le a.1 b.1 in record {
              hosts = record {
                one_limit = a.3;
                other_limit = b.3;
                one_peer = a.4 ∙ ap address_of (higher_peer low place le);
                other_peer = b.4 ∙ ap address_of (lower_peer (suc place) low (omega (arith, le)));
              };
              streams =
                  subst (λ (l : List (ℕ × E)). ArePaired m l other.channel.streams.list) (sym a.2)
                  (subst (λ (l : List (ℕ × E)). ArePaired m a.0.items l) (sym b.2) pair.1.paired);
            };
      }

      -- the lines have the streams that were counted
      pub given_counted : (cuts : List Placed) (before after : ℕ) → AreAllCounted cuts before after streams → HaveCounted cuts before after new
      given_counted cuts before after counted low place one other le at_one at_other =
          let a = line_at low place one at_one in
          let b = line_at (suc place) low other at_other in
          subst (λ (l : List (ℕ × E)). HaveNumbered cuts before after low (suc place) l other.channel.streams.list) (sym a.2)
          (subst (λ (l : List (ℕ × E)). HaveNumbered cuts before after low (suc place) a.0.items l) (sym b.2) (counted low place a.0 b.0 le a.1 b.1))

      -- and their numbers
      pub given_numbered : HaveStreamsOf streams new
      given_numbered host place line at =
          let list = line_at host place line at in
          (list.0, list.1, ap (λ (l : List (ℕ × E)). numbers l) list.2)

      -- and hold all the ends
      pub given_ends : ends_of_all new ≡ ends_prepared streams
      given_ends =
          as_many_each ends_of_row ends_in streams new (done.count ∙ were.count ∙ sym prepared.shape.count)
          (λ host lists after at_lists at.
          let size = row_length host after at in
          let same = row_size hosts streams prepared.shape host lists at_lists in
          as_many_each (λ (list : StreamsOf E). length list.items) ends_of lists after (omega (arith, size, same))
          (λ place list line at_list at_line.
          let row = row_at were.count host after at in
          let stood = stood_at row.1 after place line row.4.given.count at_line in
          let is : row.0 ≡ lists = same_Some row.0 lists (sym row.2 ∙ at_lists) in
          ap (λ (l : LineView E WriterView). length l.channel.streams.list)
          (row.4.given.each place list stood.0 line (subst (λ (ls : List (StreamsOf E)). slice_get ls place ≡ Some list) (sym is) at_list) stood.1 at_line)))
