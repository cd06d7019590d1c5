-- The two journals of each two hosts in the end.
use Rattle.std.proofs.Common.{◌≡◌, inl, inr, ℕ, suc, ◌-◌, ◌<◌, ◌≤◌, true, Some, List, [], length, map, slice_get, refl, sym, ap, subst, ◌∙◌, arith}
use Rattle.std.proofs.lemmas.Bool.{cases_lt}
use Rattle.std.proofs.lemmas.List.{append-nil, length-map}
use Rattle.std.proofs.lemmas.Option.{slice_get_within}
use Rattle.rds_model.specs.declared.entry.Entry.{Entry}
use Rattle.rds_model.specs.Fifo.{IsFifo}
use Rattle.rds_model.specs.Pairs.{IsAllAccounted}
use Rattle.rds_model.proofs.Matching.{ArePeers, other_way}
use Rattle.rds_text.specs.FinalState.{FinalHost, FinalJournal, FinalSocket}
use Rattle.rds_script.specs.declared.script.Placed.{Placed}
use Rattle.rds_host_end.specs.Joined.{orders_of}
use Rattle.rds_socket_parts.specs.Lanes.{IsLaneAt}
use Rattle.rds_run_callers.specs.Places.{holding_of}
use Rattle.rds_run_rounds.specs.Grid.{IsAt, peer_at}
use Rattle.rds_run_hosts.proofs.At.{map_at}
use Rattle.rds_run_hosts.proofs.Made.{peers_count}
use Rattle.rds_run_threads.specs.Causes.{IsOfCommands}
use Rattle.rds_run_threads.specs.Ends.{AreAcknowledged, AreEnds}
use Rattle.rds_run_threads.specs.Outcome.{IsOutcome}
use Rattle.rds_run_threads.proofs.At.{all_at, some_at}
use Rattle.rds_run_threads.proofs.Rows.{peer_after, peer_before, place_is}

-- What two ends of a connection are for each other: they follow the rules, streams gave beginnings of what was written to them, and each accepted
-- datagram is accounted for.
pub record HaveMet (a b : List Entry) : Type 0 where
  pub peers : ArePeers a b
  pub forth : IsFifo a b
  pub back : IsFifo b a
  pub accounted_forth : (sport dport : ℕ) → IsAllAccounted sport dport a b
  pub accounted_back : (sport dport : ℕ) → IsAllAccounted sport dport b a

met_back : (a b : List Entry) → HaveMet a b → HaveMet b a
met_back a b met = record {
  peers = other_way a b met.peers;
  forth = met.back;
  back = met.forth;
  accounted_forth = met.accounted_back;
  accounted_back = met.accounted_forth;
}

-- The journal of a host's peer with it
pub record MeetsAt (hosts : ℕ) (ends : List FinalHost) (host place : ℕ) (own : List Entry) : Type 0 where
  pub other : FinalHost
  pub turn : ℕ
  pub back : FinalJournal
  pub known : peer_at host place < hosts
  pub stands : slice_get ends (peer_at host place) ≡ Some other
  pub at : slice_get other.sides turn ≡ Some back
  pub there : peer_at (peer_at host place) turn ≡ host
  pub met : HaveMet own back.past

module _ (hosts : ℕ) (commands : List Placed) (ends : List FinalHost) (did : AreEnds true hosts commands ends) where
  pub host_within : (host : ℕ) (end : FinalHost) → slice_get ends host ≡ Some end → host < hosts
  host_within host end stands = let within = slice_get_within ends host end stands in let count = did.count in omega (arith, within, count)

  pub side_count : (host : ℕ) (end : FinalHost) → slice_get ends host ≡ Some end → length end.sides ≡ hosts - 1
  side_count host end stands =
      sym (length-map end.sides (λ (side : FinalJournal). side.peer)) ∙ (ap (λ (l : List ℕ). length l) (did.peers host end stands) ∙ peers_count hosts host)

  -- one of the journals at each place of each host
  pub side_at : (host place : ℕ) → host < hosts → suc place < hosts →
      (end : FinalHost) × (side : FinalJournal) × (slice_get ends host ≡ Some end) × (slice_get end.sides place ≡ Some side)
  side_at host place known within =
      let count = did.count in
      let end = some_at ends host (omega (arith, known, count)) in
      let sides = side_count host end.0 end.1 in
      let side = some_at end.0.sides place (omega (arith, within, sides)) in
      (end.0, side.0, end.1, side.1)

  module _ (acknowledged : AreAcknowledged ends) where
    -- the journals of two hosts, the lower one first
    low_met : (low place : ℕ) (one other : FinalHost) (a b : FinalJournal) → low ≤ place → slice_get ends low ≡ Some one → slice_get ends (suc place) ≡ Some other →
        slice_get one.sides place ≡ Some a → slice_get other.sides low ≡ Some b → HaveMet a.past b.past
    low_met low place one other a b least at_one at_other at_a at_b =
        let sound = did.sound low place a b least (row low place one a at_one at_a) (row (suc place) low other b at_other at_b) in
        let honest = sound.honest refl in
        let accounted = acknowledged.accounted low place one other a b least at_one at_other at_a at_b honest in
        record {
          peers = record { legal_a = sound.low_legal.legal; legal_b = sound.high_legal.legal; honest = honest };
          forth = sound.fifo_forth honest;
          back = sound.fifo_back honest;
          accounted_forth = λ sport dport. (accounted sport dport).0;
          accounted_back = λ sport dport. (accounted sport dport).1;
        }
      where
        row : (host spot : ℕ) (end : FinalHost) (side : FinalJournal) → slice_get ends host ≡ Some end → slice_get end.sides spot ≡ Some side →
            IsAt (map (λ (e : FinalHost). e.sides) ends) host spot side
        row host spot end side at_end at_side = (end.sides, map_at (λ (e : FinalHost). e.sides) ends host end at_end, at_side)

    pub meets_at : (host place : ℕ) (end : FinalHost) (side : FinalJournal) → slice_get ends host ≡ Some end → slice_get end.sides place ≡ Some side →
        MeetsAt hosts ends host place side.past
    meets_at host place end side stands at =
        let known = host_within host end stands in
        let inside = slice_get_within end.sides place side at in
        let count = side_count host end stands in
        let within : suc place < hosts = omega (arith, inside, count) in
        elim (cases_lt place host) [
          | inl lower ↦
              let peer = peer_before host place lower in
              let last : suc (host - 1) ≡ host = omega (arith, lower) in
              let other = side_at place (host - 1) (omega (arith, within)) (omega (arith, last, known)) in
              let met = low_met place (host - 1) other.0 end other.1 side (omega (arith, lower)) other.2 (ap (slice_get ends) last ∙ stands) other.3 at in
              record {
                other = other.0;
                turn = host - 1;
                back = other.1;
                known = omega (arith, peer, within);
                stands = ap (slice_get ends) peer ∙ other.2;
                at = other.3;
                there = ap (λ (n : ℕ). peer_at n (host - 1)) peer ∙ (peer_after place (host - 1) (omega (arith, lower)) ∙ last);
                met = met_back other.1.past side.past met;
              }
          | inr higher ↦
              let peer = peer_after host place higher in
              let other = side_at (suc place) host within (omega (arith, higher, within)) in
              let met = low_met host place end other.0 side other.1 higher stands other.2 at other.3 in
              record {
                other = other.0;
                turn = host;
                back = other.1;
                known = omega (arith, peer, within);
                stands = ap (slice_get ends) peer ∙ other.2;
                at = other.3;
                there = ap (λ (n : ℕ). peer_at n host) peer ∙ peer_before (suc place) host (omega (arith, higher));
                met = met;
              }
        ]

-- a journal in the end is of the script's commands
pub of_outcome : (hosts host place : ℕ) (commands : List Placed) (sides : List FinalJournal) (sockets : List FinalSocket) (side : FinalJournal) →
    IsOutcome hosts host commands sides sockets → slice_get sides place ≡ Some side → IsOfCommands hosts host (peer_at host place) commands side.past
of_outcome hosts host place commands sides sockets side is at = record {
  last = is.last;
  done = is.done;
  sent = λ spot same slot p lane at_p at_lane.
      let here : IsLaneAt (holding_of p).routes place lane = subst (λ (n : ℕ). IsLaneAt (holding_of p).routes n lane) (place_is host spot place same) at_lane in
      ([], sym (is.sent slot place p lane side at_p here at) ∙ sym (append-nil (orders_of slot side.past)));
  none_else = all_at (λ (s : FinalJournal). (slot : ℕ) → length is.last ≤ slot → orders_of slot s.past ≡ []) sides place side is.none_else at;
}
