-- A run that ended since a journal is full.
use Rattle.std.proofs.Common.{◌≡◌, ◌≢◌, ◌<◌, ◌≤◌, ℕ, suc, ◌+◌, ◌-◌, inl, inr, List, Some, length, slice_get, sym, ap, subst, ◌∙◌, arith}
use Rattle.std.proofs.lemmas.Bool.{cases_lt}
use Rattle.rds_link.specs.Ends.{Means}
use Rattle.rds_model.specs.declared.entry.Entry.{Entry}
use Rattle.rds_fmap.specs.Readers.{WriterView}
use Rattle.rds_line.specs.Line.{IsFull, LineView, line_past}
use Rattle.rds_run_callers.specs.Places.{CallerView}
use Rattle.rds_script.specs.declared.script.Placed.{Placed}
use Rattle.rds_run_rounds.specs.Connection.{IsFullHost}
use Rattle.rds_run_rounds.specs.Done.{AreDone}
use Rattle.rds_run_rounds.specs.Grid.{IsAt, peer_at}
use Rattle.rds_run_rounds.specs.Sound.{AreSoundJournals}
use Rattle.rds_line_channel.specs.Streams.{numbers}
use Rattle.rds_run_hosts.specs.Preparing.{HaveCounted}
use Rattle.rds_run_hosts.specs.Streams.{AreNumbersOf, streams_between}
use Rattle.rds_run_threads.specs.Causes.{IsFilledAlone, IsFullJournal, IsOfCommands}
use Rattle.rds_run_threads.specs.Settled.{HaveDoneSpared}
use Rattle.rds_run_threads.specs.Taking.{HasOrders, HaveTied, IsGroundedAt, IsJournalOf}
use Rattle.rds_run_threads.proofs.FilledAlone.{filled_alone}
use Rattle.rds_run_threads.proofs.Hosts.{line_of, sound_of}
use Rattle.rds_run_threads.proofs.Lacking.{counted_at, opened_among, streams_either_way}
use Rattle.rds_run_threads.proofs.Rows.{host_within, peer_after, peer_apart, peer_before, peer_within, place_within, stands}
use Rattle.rds_run_threads.proofs.Taken.{of_commands_at}

full_of : {E M : Type 0} (limit entries : ℕ) (line : LineView E M) (past : List Entry) → past ≡ line_past line → line.channel.conn.log.limit ≡ limit →
    length past ≤ line.channel.conn.log.limit → IsFull entries line → (length past ≡ entries) × (entries ≤ limit) × (limit < entries + 2)
full_of limit entries line past is same within full =
    let count : length past ≡ length (line_past line) = ap length is in
    let entries_are = full.count in
    let most = full.most in
    (count ∙ sym entries_are, omega (arith, entries_are, count, within, same), omega (arith, entries_are, most, same))

-- two hosts that differ, and how many there are
pub record AreTwoOf (hosts host peer : ℕ) : Type 0 where
  pub many : 1 < hosts
  pub first : host < hosts
  pub second : peer < hosts
  pub apart : peer ≢ host
  pub few : host < 26
  pub few_peers : peer < 26

module _ {E M : Type 0} (m : Means E) (limit hosts : ℕ) (rows : List (List (LineView E M))) (done : AreDone m limit hosts rows) where
  -- a host whose journal with a peer is full
  pub full_two : (host peer entries : ℕ) → IsFullHost host peer entries rows → AreTwoOf hosts host peer
  full_two host peer entries full =
      let first = host_within hosts rows done.shape host full.at.0 full.at.1 in
      let more = place_within hosts rows done.shape host full.place full.line full.at in
      let within = peer_within hosts host full.place more in
      let few = done.few in
      let to = full.to in record {
        many = omega (arith, more);
        first = first;
        second = omega (arith, within, to);
        apart = λ same. peer_apart host full.place (to ∙ same);
        few = omega (arith, first, few);
        few_peers = omega (arith, within, to, few);
      }

  -- the line back
  back_at : (host peer place : ℕ) (line : LineView E M) → IsAt rows host place line → peer_at host place ≡ peer →
      (back : ℕ) × (other : LineView E M) × (peer_at peer back ≡ host) × IsAt rows peer back other
  back_at host peer place line at to =
      let known = host_within hosts rows done.shape host at.0 at.1 in
      let within = place_within hosts rows done.shape host place line at in
      elim (cases_lt place host) [
        | inl lower ↦
            let is : peer ≡ place = sym to ∙ peer_before host place lower in
            let next : suc (host - 1) ≡ host = omega (arith, lower) in
            let other = stands hosts rows done.shape peer (host - 1) (omega (arith, is, known, lower)) (omega (arith, known, lower)) in
            (host - 1, other.0, peer_after peer (host - 1) (omega (arith, is, lower)) ∙ next, other.1)
        | inr higher ↦
            let is : peer ≡ suc place = sym to ∙ peer_after host place higher in
            let other = stands hosts rows done.shape peer host (omega (arith, is, within)) (omega (arith, higher, within)) in
            (host, other.0, peer_before peer host (omega (arith, is, higher)), other.1)
      ]

  -- the two journals of a host that is full and its peer
  full_journal : (host peer entries : ℕ) → IsFullHost host peer entries rows → (own other : List Entry) → IsJournalOf rows host peer own →
      IsJournalOf rows peer host other → (commands : List Placed) (before after : ℕ) → HaveCounted commands before after rows →
      IsOfCommands hosts host peer commands own → IsOfCommands hosts peer host commands other → (hosts ≡ 2 → IsFilledAlone hosts host peer commands own) →
      (hosts ≡ 2 → IsFilledAlone hosts peer host commands other) → IsFullJournal m.tells limit hosts commands host peer entries own other
  full_journal host peer entries full own other is is_other commands before after counted own_sent other_sent own_filled other_filled =
      let line = line_of m limit hosts rows done host full.place full.line full.at in
      let own_is = is full.place full.line full.to full.at in
      let f = full_of limit entries full.line own own_is.is line.limit_is own_is.few full.full in
      let two = full_two host peer entries full in
      let back = back_at host peer full.place full.line full.at full.to in
      let other_is = is_other back.0 back.1 back.2 back.3 in
      let own_counted = counted_at hosts rows done.shape commands before after counted host full.place full.line full.at in
      let other_counted = counted_at hosts rows done.shape commands before after counted peer back.0 back.1 back.3 in record {
        host_known = two.first;
        peer_known = two.second;
        apart = two.apart;
        count = f.0;
        few = f.1;
        most = f.2;
        sound =
            subst (λ (p : List Entry). AreSoundJournals m.tells p other) (sym own_is.is)
            (subst (λ (p : List Entry). AreSoundJournals m.tells (line_past full.line) p) (sym other_is.is)
            (sound_of m limit hosts rows done host peer full.place back.0 full.line back.1 full.at back.3 full.to back.2));
        own_sent = own_sent;
        other_sent = other_sent;
        own_filled = own_filled;
        other_filled = other_filled;
        own_opened =
            opened_among (streams_between host peer commands) before after full.line own
            (subst (λ (p : ℕ). AreNumbersOf (streams_between host p commands) before after (numbers full.line.channel.streams.list)) full.to own_counted) own_is;
        other_opened =
            opened_among (streams_between host peer commands) before after back.1 other
            (subst (λ (n : ℕ). AreNumbersOf n before after (numbers back.1.channel.streams.list))
            (ap (λ (p : ℕ). streams_between peer p commands) back.2 ∙ streams_either_way peer host commands) other_counted) other_is;
      }

module _ {E : Type 0} (m : Means E) (limit hosts : ℕ) (callers : List CallerView) (rows : List (List (LineView E WriterView))) (done : AreDone m limit hosts rows)
    (tied : HaveTied callers rows) (commands : List Placed) (did : HaveDoneSpared hosts commands callers rows) where
  -- so it is of the two journals that were taken out of what all hosts have
  pub full_in_run : (before after : ℕ) → HaveCounted commands before after rows → (host peer entries : ℕ) → IsFullHost host peer entries rows →
      (own other : List Entry) → IsJournalOf rows host peer own → IsJournalOf rows peer host other →
      ((caller : CallerView) → slice_get callers host ≡ Some caller → HasOrders host peer caller.places own) →
      ((caller : CallerView) → slice_get callers peer ≡ Some caller → HasOrders peer host caller.places other) →
      IsGroundedAt callers rows host → IsGroundedAt callers rows peer → IsFullJournal m.tells limit hosts commands host peer entries own other
  full_in_run before after counted host peer entries full own other is is_other own_orders other_orders own_grounded other_grounded =
      let two = full_two m limit hosts rows done host peer entries full in
      let first = two.first in
      let second = two.second in
      let count = done.shape.count in
      full_journal m limit hosts rows done host peer entries full own other is is_other commands before after counted
      (of_commands_at hosts commands callers rows two.many did tied host peer (omega (arith, first, count)) own own_orders)
      (of_commands_at hosts commands callers rows two.many did tied peer host (omega (arith, second, count)) other other_orders)
      (filled_alone m limit hosts callers rows done tied commands did host peer first second two.apart own is own_grounded)
      (filled_alone m limit hosts callers rows done tied commands did peer host second first (λ same. two.apart (sym same)) other is_other other_grounded)
