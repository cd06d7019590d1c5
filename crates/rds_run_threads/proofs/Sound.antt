-- What is left of hosts whose lines are done, and who did their commands, is what a run has in the end.
use Rattle.std.proofs.Common.{◌≡◌, ◌≢◌, ◌<◌, ℕ, suc, List, Some, length, map, slice_get, sym, ap, subst, ◌∙◌, arith}
use Rattle.std.proofs.lemmas.List.{length-map}
use Rattle.std.proofs.lemmas.Simd.{map-map}
use Rattle.rds_link.specs.Ends.{Means}
use Rattle.rds_model.specs.declared.entry.Entry.{Entry}
use Rattle.rds_model.specs.Honest.{IsHonest}
use Rattle.rds_model.specs.Pairs.{IsDeliveredOnce}
use Rattle.rds_fmap.specs.Readers.{WriterView}
use Rattle.rds_line.specs.Line.{LineView, line_past}
use Rattle.rds_host_end.specs.Sides.{line_side}
use Rattle.rds_text.specs.FinalState.{FinalHost, FinalJournal}
use Rattle.rds_text.specs.Hosts.{IsAddress, address_of}
use Rattle.rds_text.specs.FinalViews.{AreFinalHosts, AreSides, host_view, host_views, socket_view}
use Rattle.rds_text.specs.declared.final_state.HostEnd.{HostEnd}
use Rattle.rds_run_callers.specs.Places.{CallerView}
use Rattle.rds_script.specs.declared.script.Placed.{Placed}
use Rattle.rds_run_rounds.specs.Done.{AreDone}
use Rattle.rds_run_rounds.specs.Drained.{AreDrained, AreDrainedLines}
use Rattle.rds_run_rounds.specs.Grid.{IsAt, OfEachPair, peer_at}
use Rattle.rds_run_rounds.specs.Sound.{AreSoundJournals}
use Rattle.rds_run_threads.specs.Ends.{AreDrainedHosts, AreEnds, AreReliable}
use Rattle.rds_run_threads.specs.Outcome.{IsOutcome}
use Rattle.rds_run_threads.specs.Reliable.{HasReceived}
use Rattle.rds_run_threads.specs.Settled.{AreLeftOf, HaveDoneSpared, IsLeftOf}
use Rattle.rds_run_threads.proofs.At.{all_from, at_map, pairs_from, stood_at}
use Rattle.rds_run_threads.proofs.HandedOut.{AreAccepted}
use Rattle.rds_run_threads.proofs.Hosts.{line_of, peers_of_row}
use Rattle.rds_run_threads.proofs.Outcome.{outcome_of}
use Rattle.rds_run_threads.proofs.Receiving.{reliable_of}
use Rattle.rds_run_threads.proofs.Rows.{host_within, peer_within, peers_ascend, place_within}

module _ {E : Type 0} (m : Means E) (limit hosts : ℕ) (callers : List CallerView) (rows : List (List (LineView E WriterView))) (ends : List HostEnd)
    (done : AreDone m limit hosts rows) (same : length callers ≡ length rows) (left : AreLeftOf callers rows ends) where
  -- what stands at a host's place of what is left
  record IsHost (host : ℕ) (final : FinalHost) : Type 0 where
    pub end : HostEnd
    pub caller : CallerView
    pub row : List (LineView E WriterView)
    pub is : final ≡ host_view end
    pub caller_at : slice_get callers host ≡ Some caller
    pub row_at : slice_get rows host ≡ Some row
    pub rest : IsLeftOf host caller.places row end

  host_at : (host : ℕ) (final : FinalHost) → slice_get (host_views ends) host ≡ Some final → IsHost host final
  host_at host final at =
      let end = at_map host_view ends host final at in
      let row = stood_at rows ends host end.0 left.count end.1 in
      let caller = stood_at callers rows host row.0 (sym same) row.1 in
      record {
        end = end.0;
        caller = caller.0;
        row = row.0;
        is = end.2;
        caller_at = caller.1;
        row_at = row.1;
        rest = left.each host caller.0 row.0 end.0 caller.1 row.1 end.1;
      }

  sides_are : (host : ℕ) (final : FinalHost) (is : IsHost host final) → final.sides ≡ map line_side is.row
  sides_are host final is = ap (λ (h : FinalHost). h.sides) is.is ∙ is.rest.journals

  -- a host's journal is that of its line at the same place
  line_at : (host place : ℕ) (final : FinalHost) (side : FinalJournal) → slice_get (host_views ends) host ≡ Some final → slice_get final.sides place ≡ Some side →
      (line : LineView E WriterView) × (side ≡ line_side line) × IsAt rows host place line
  line_at host place final side at at_side =
      let is = host_at host final at in
      let line = at_map line_side is.row place side (subst (λ (l : List FinalJournal). slice_get l place ≡ Some side) (sides_are host final is) at_side) in
      (line.0, line.2, (is.row, is.row_at, line.1))

  journal_at : (host place : ℕ) (side : FinalJournal) → IsAt (map (λ (h : FinalHost). h.sides) (host_views ends)) host place side →
      (line : LineView E WriterView) × (side ≡ line_side line) × IsAt rows host place line
  journal_at host place side (sides, at, at_side) =
      let final = at_map (λ (h : FinalHost). h.sides) (host_views ends) host sides at in
      line_at host place final.0 side final.1 (subst (λ (l : List FinalJournal). slice_get l place ≡ Some side) final.2 at_side)

  -- what holds of the journals of the lines of each two hosts holds of the journals that are left
  pub pairs_of : (Holds : (low high : ℕ) → List Entry → List Entry → Type 0) →
      OfEachPair (λ low high (one : LineView E WriterView) (other : LineView E WriterView). Holds low high (line_past one) (line_past other)) rows →
      OfEachPair (λ low high (one : FinalJournal) (other : FinalJournal). Holds low high one.past other.past) (map (λ (h : FinalHost). h.sides) (host_views ends))
  pairs_of Holds each low place one other least at at_other =
      let a = journal_at low place one at in
      let b = journal_at (suc place) low other at_other in
      subst (λ (j : FinalJournal). Holds low (suc place) j.past other.past) (sym a.1)
      (subst (λ (j : FinalJournal). Holds low (suc place) (line_past a.0) j.past) (sym b.1) (each low place a.0 b.0 least a.2 b.2))

  -- between the hosts nothing is left where nothing is left between their lines
  pub drained_of : AreDrainedLines rows → AreDrainedHosts (host_views ends)
  drained_of drained = pairs_of (λ low high. AreDrained) drained

  addr_of : (host : ℕ) (final : FinalHost) → slice_get (host_views ends) host ≡ Some final → final.addr ≡ address_of host
  addr_of host final at =
      let is = host_at host final at in
      ap (λ (h : FinalHost). h.addr) is.is ∙ is.rest.addr

  peer_of_side : (host place : ℕ) (final : FinalHost) (side : FinalJournal) → slice_get (host_views ends) host ≡ Some final →
      slice_get final.sides place ≡ Some side → (side.peer ≡ address_of (peer_at host place)) × (suc place < hosts)
  peer_of_side host place final side at at_side =
      let line = line_at host place final side at at_side in (
        ap (λ (j : FinalJournal). j.peer) line.1 ∙ (line_of m limit hosts rows done host place line.0 line.2).peer_is,
        place_within hosts rows done.shape host place line.0 line.2,
      )

  is_address : (host addr : ℕ) → host < hosts → addr ≡ address_of host → IsAddress addr
  is_address host addr within is =
      let few = done.few in
      record { least = omega (arith, is); most = omega (arith, is, within, few) }

  -- they can be reported on
  pub final_of : AreFinalHosts (host_views ends)
  final_of = record {
    once = pairs_from (λ (a b : FinalHost). a.addr ≢ b.addr) (host_views ends)
        (λ i j x y less at_x at_y alike.
        let a = addr_of i x at_x in
        let b = addr_of j y at_y in
        absurd (omega (arith, a, b, alike, less)));
    addresses = all_from (λ (h : FinalHost). IsAddress h.addr) (host_views ends)
        (λ i x at. let is = host_at i x at in is_address i x.addr (host_within hosts rows done.shape i is.row is.row_at) (addr_of i x at));
    sides = all_from (λ (h : FinalHost). AreSides h.sides) (host_views ends)
        (λ i x at. record {
          once = pairs_from (λ (a b : FinalJournal). a.peer ≢ b.peer) x.sides
              (λ p q a b less at_a at_b alike.
              let one = (peer_of_side i p x a at at_a).0 in
              let other = (peer_of_side i q x b at at_b).0 in
              let up = peers_ascend i p q less in
              absurd (omega (arith, one, other, up, alike)));
          peers = all_from (λ (s : FinalJournal). IsAddress s.peer) x.sides
              (λ p a at_a.
              let is = peer_of_side i p x a at at_a in
              is_address (peer_at i p) a.peer (peer_within hosts i p is.1) is.0);
        });
  }

  reliable_all : AreReliable (host_views ends)
  reliable_all low place one other a b least at at_other at_a at_b honest =
      let first = host_at low one at in
      let second = host_at (suc place) other at_other in
      let la = line_at low place one a at at_a in
      let lb = line_at (suc place) low other b at_other at_b in
      let pair = done.sound low place la.0 lb.0 least la.2 lb.2 in
      let s = pair.sound in
      let one_peer : a.peer ≡ address_of (suc place) = ap (λ (j : FinalJournal). j.peer) la.1 ∙ pair.hosts.one_peer in
      let other_peer : b.peer ≡ address_of low = ap (λ (j : FinalJournal). j.peer) lb.1 ∙ pair.hosts.other_peer in
      let a_past : line_past la.0 ≡ a.past = sym (ap (λ (j : FinalJournal). j.past) la.1) in
      let b_past : line_past lb.0 ≡ b.past = sym (ap (λ (j : FinalJournal). j.past) lb.1) in
      let begins =
      subst (λ (p : List Entry). IsHonest p (line_past lb.0)) (sym a_past) (subst (λ (p : List Entry). IsHonest a.past p) (sym b_past) honest) in
      let one_has : HasReceived one = subst HasReceived (sym first.is) first.rest.received in
      let other_has : HasReceived other = subst HasReceived (sym second.is) second.rest.received in (
        reliable_of low low a.past other b at_b other_peer other_has
            (subst (λ (p : List Entry). AreAccepted p b.past) a_past (subst (λ (p : List Entry). AreAccepted (line_past la.0) p) b_past (s.fifo_forth begins).accepted))
            (subst (λ (p : List Entry). (sport dport : ℕ) → IsDeliveredOnce sport dport p b.past) a_past
            (subst (λ (p : List Entry). (sport dport : ℕ) → IsDeliveredOnce sport dport (line_past la.0) p) b_past (s.forth begins))),
        reliable_of (suc place) place b.past one a at_a one_peer one_has
            (subst (λ (p : List Entry). AreAccepted p a.past) b_past (subst (λ (p : List Entry). AreAccepted (line_past lb.0) p) a_past (s.fifo_back begins).accepted))
            (subst (λ (p : List Entry). (sport dport : ℕ) → IsDeliveredOnce sport dport p a.past) b_past
            (subst (λ (p : List Entry). (sport dport : ℕ) → IsDeliveredOnce sport dport (line_past lb.0) p) a_past (s.back begins))),
      )

  -- what they have in the end
  pub ends_of : (commands : List Placed) → HaveDoneSpared hosts commands callers rows → AreEnds m.tells hosts commands (host_views ends)
  ends_of commands did =
      let ends_count = left.count in
      let rows_count = done.shape.count in record {
        count = length-map ends host_view ∙ (ends_count ∙ rows_count);
        addresses = addr_of;
        peers = λ host final at.
            let is = host_at host final at in
            ap (map (λ (side : FinalJournal). side.peer)) (sides_are host final is)
            ∙ (map-map (λ (side : FinalJournal). side.peer) line_side is.row ∙ peers_of_row m limit hosts rows done host is.row is.row_at);
        sound = pairs_of (λ low high. AreSoundJournals m.tells) (λ low place one other least at at_other. (done.sound low place one other least at at_other).sound);
        did = λ host final at.
            let is = host_at host final at in
            subst (λ (h : FinalHost). IsOutcome hosts host commands h.sides h.sockets) (sym is.is)
            (subst (λ (l : List FinalJournal). IsOutcome hosts host commands l (map socket_view is.end.kept.items)) (sym is.rest.journals)
            (outcome_of hosts host commands is.caller.places is.row is.end.kept.items
            (λ place line at_line. (
              (line_of m limit hosts rows done host place line (is.row, is.row_at, at_line)).peer_is,
              place_within hosts rows done.shape host place line (is.row, is.row_at, at_line),
            ))
            (did host is.caller is.row is.caller_at is.row_at) is.rest.sent is.rest.looked is.rest.cut is.rest.grounded is.rest.gone is.rest.found is.rest.kept));
        received = all_from HasReceived (host_views ends) (λ host final at. let is = host_at host final at in subst HasReceived (sym is.is) is.rest.received);
        reliable = reliable_all;
      }
