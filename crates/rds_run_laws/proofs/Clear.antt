-- In a run of a calm script no map with a port is pulled, and no look finds a port marked.
use Rattle.std.proofs.Common.{◌≡◌, ℕ, ◌+◌, ◌-◌, ◌<◌, ◌≤◌, true, Some, List, ◌∷◌, length, slice_get, refl, sym, ap, subst, ◌∙◌, arith}
use Rattle.std.specs.Prelude.{Contains}
use Rattle.std.proofs.lemmas.List.{length-map}
use Rattle.std.proofs.lemmas.List.Elements.{Contains-append_right}
use Rattle.std.proofs.lemmas.Option.{slice_get_within}
use Rattle.rds_wire.specs.Bytes.{IsBytes}
use Rattle.rds_wire.specs.declared.frame.Frame.{Frame}
use Rattle.rds_wire.specs.declared.kind.TheConstants.{MAP_LENGTH}
use Rattle.rds_model.specs.declared.entry.Entry.{Entry}
use Rattle.rds_model.specs.declared.entry.Entry.TheVariants.{Pull}
use Rattle.rds_model.specs.Deliveries.{put_bytes}
use Rattle.rds_model.specs.Legal.{IsLegal}
use Rattle.rds_model.specs.Owed.{is_map}
use Rattle.rds_model.specs.Past.{Moment}
use Rattle.rds_model.proofs.Matching.{other_way}
use Rattle.rds_fmap.specs.Readers.{ReaderView}
use Rattle.rds_text.specs.FinalState.{FinalHost, FinalJournal}
use Rattle.rds_script.specs.declared.script.Placed.{Placed}
use Rattle.rds_socket_parts.specs.Lanes.{Lane}
use Rattle.rds_run_callers.specs.Places.{Place, holding_of}
use Rattle.rds_run_hosts.proofs.Made.{peers_count}
use Rattle.rds_run_rounds.specs.Grid.{peer_at}
use Rattle.rds_run_threads.specs.Causes.{IsOfCommands}
use Rattle.rds_run_threads.specs.Ends.{AreAcknowledged, AreEnds}
use Rattle.rds_run_threads.specs.Outcome.{IsFilled}
use Rattle.rds_line.specs.Seats.{HasPulled}
use Rattle.rds_run_threads.proofs.At.{all_at, some_at}
use Rattle.rds_run_threads.proofs.Rows.{peer_apart, place_is}
use Rattle.rds_run_laws.specs.Calm.{IsCalm}
use Rattle.rds_run_laws.specs.Few.{PullsNoPort}
use Rattle.rds_run_laws.specs.Put.{own_sum}
use Rattle.rds_run_laws.specs.Weights.{by_length}
use Rattle.rds_run_laws.proofs.Arrivals.{passed_few}
use Rattle.rds_run_laws.proofs.Bounded.{few_delivered}
use Rattle.rds_run_laws.proofs.Calmly.{roomy}
use Rattle.rds_run_laws.proofs.Effects.{LeadToOthers}
use Rattle.rds_run_laws.proofs.Meeting.{MeetsAt, host_within, meets_at, of_outcome, side_count}
use Rattle.rds_run_laws.proofs.Ports.{no_port_in}
use Rattle.rds_run_laws.proofs.Pulled.{none_marked}
use Rattle.rds_run_laws.proofs.Shares.{shares, total_few}
use Rattle.rds_run_laws.proofs.Walking.{AreClear}

module _ (hosts : ℕ) (commands : List Placed) (ends : List FinalHost) (did : AreEnds true hosts commands ends) (acknowledged : AreAcknowledged ends) where
  -- the journal of a peer is of the script's commands
  pub back_commands : (host place : ℕ) (own : List Entry) (m : MeetsAt hosts ends host place own) →
      IsOfCommands hosts (peer_at host place) host commands m.back.past
  back_commands host place own m =
      subst (λ (n : ℕ). IsOfCommands hosts (peer_at host place) n commands m.back.past) m.there
      (of_outcome hosts (peer_at host place) m.turn commands m.other.sides m.other.sockets m.back (did.did (peer_at host place) m.other m.stands) m.at)

  -- what a journal delivers to a slot is no more than what the peer's commands send
  few_put : (host place slot : ℕ) (end : FinalHost) (side : FinalJournal) → slice_get ends host ≡ Some end → slice_get end.sides place ≡ Some side →
      put_bytes slot side.past ≤ own_sum by_length (peer_at host place) commands
  few_put host place slot end side stands at =
      let m = meets_at hosts commands ends did acknowledged host place end side stands at in
      few_delivered (λ w a b fifo. passed_few w a b fifo) hosts host (peer_at host place) slot commands side.past m.back.past
      (host_within hosts commands ends did host end stands) m.known (peer_apart host place) m.met.peers.legal_b m.met.back (back_commands host place side.past m)

  module _ (calm : IsCalm hosts commands) where
    pub none_pulled : (host place : ℕ) (end : FinalHost) (side : FinalJournal) → slice_get ends host ≡ Some end → slice_get end.sides place ≡ Some side →
        PullsNoPort side.past
    none_pulled host place end side stands at port small pulled =
        let outcome = did.did host end stands in
        let filled = all_at Filled end.sides place side outcome.filled at port small pulled in
        let asked = filled.asked in
        let there : Contains commands asked.placed =
        subst (λ (l : List Placed). Contains l asked.placed) (sym asked.order)
        (Contains-append_right asked.before (asked.placed ∷ asked.after) asked.placed (0, omega arith, refl)) in
        let least = roomy hosts commands calm host filled.rcvbuf asked.placed there asked.asks in
        let put = total_few (λ (s : FinalJournal). put_bytes filled.slot s.past) (λ i. own_sum by_length (peer_at host i) commands) 0 end.sides
        (λ i x at_x.
        let few = few_put host i filled.slot end x stands at_x in
        let same : own_sum by_length (peer_at host (0 + i)) commands ≡ own_sum by_length (peer_at host i) commands =
        ap (λ (n : ℕ). own_sum by_length (peer_at host n) commands) (let n : 0 + i ≡ i = omega arith in n) in
        omega (arith, few, same)) in
        let share = shares by_length (peer_at host) (place_is host) 0 (length end.sides) commands in
        let above = filled.above in
        absurd (omega (arith, least, put, share, above))
      where
        Filled : FinalJournal → Type 0
        Filled s = (n : ℕ) → n < 65536 → HasPulled n s.past →
            IsFilled host commands (did.did host end stands).done.first (did.did host end stands).last end.sides n

    module _ (pulled : (s : ℕ) (f : Frame) (p past : List Entry) → IsLegal past → Moment (Pull s f ∷ p) past → is_map f ≡ true →
        (length f.payload ≡ MAP_LENGTH) × IsBytes f.payload) where
      -- what sockets of a host find by their routes
      pub all_clear : (host : ℕ) (end : FinalHost) (stands : slice_get ends host ≡ Some end) →
          ((slot : ℕ) (p : Place) → slice_get (did.did host end stands).last slot ≡ Some p → LeadToOthers hosts host (holding_of p).routes) →
          AreClear (did.did host end stands).last
      all_clear host end stands lead slot p at i lane at_lane port seen looked =
          let routes = (holding_of p).routes in
          let count : length routes ≡ hosts - 1 =
          sym (length-map routes (λ (l : Lane ReaderView). l.peer)) ∙ (ap (λ (l : List ℕ). length l) (lead slot p at) ∙ peers_count hosts host) in
          let within = slice_get_within routes i lane at_lane in
          let sides = side_count hosts commands ends did host end stands in
          let side = some_at end.sides i (omega (arith, count, within, sides)) in
          let m = meets_at hosts commands ends did acknowledged host i end side.0 stands side.1 in
          let found = ((did.did host end stands).looked slot i p lane side.0 at at_lane side.1).0 port seen looked in
          none_marked m.back.past side.0.past (other_way side.0.past m.back.past m.met.peers)
          (no_port_in pulled m.back.past m.met.peers.legal_b (none_pulled (peer_at host i) m.turn m.other m.back m.stands m.at))
          port seen found
