-- What is counted of a run of a calm script.
use Rattle.std.proofs.Common.{◌≡◌, ℕ, suc, ◌+◌, ◌-◌, ◌&&◌, not, Bool, true, false, Some, List, [], ◌∷◌, ◌++◌, length, map, slice_get, refl, ap, ◌∙◌, arith}
use Rattle.std.specs.Prelude.{Contains, flat_map, sum_by}
use Rattle.std.proofs.lemmas.List.Sums.{sum_by-append, sum_by-cons}
use Rattle.rds_wire.specs.Bytes.{IsBytes}
use Rattle.rds_wire.specs.declared.frame.Frame.{Frame}
use Rattle.rds_wire.specs.declared.kind.TheConstants.{MAP_LENGTH}
use Rattle.rds_model.specs.declared.entry.Entry.{Entry}
use Rattle.rds_model.specs.declared.entry.Entry.TheVariants.{Accept, Cancel, Open, Pull, Read, Shut, Bad}
use Rattle.rds_model.specs.declared.entry.Outcome.{Outcome}
use Rattle.rds_model.specs.declared.entry.Outcome.TheVariants as outcome
use Rattle.rds_model.specs.declared.order.Datagram.{Datagram}
use Rattle.rds_model.specs.Alive.{was_taken_back}
use Rattle.rds_model.specs.Legal.{IsLegal}
use Rattle.rds_model.specs.Owed.{is_map}
use Rattle.rds_model.specs.Past.{Moment, accepted, passes}
use Rattle.rds_model.specs.Streams.{was_passed}
use Rattle.rds_text.specs.FinalState.{FinalHost, FinalJournal, FinalSocket, past_of}
use Rattle.rds_text.specs.Hosts.{address_of}
use Rattle.rds_report.specs.declared.item.Group.{Group as Key}
use Rattle.rds_report.specs.Item.{Item, What, Accepted, Received, Unread}
use Rattle.rds_report.specs.Items.{accepted_items, came_items, host_items, item, items, read_items, sent_items, side_items, socket_items}
use Rattle.rds_script.specs.declared.script.Placed.{Placed}
use Rattle.rds_run_rounds.specs.Grid.{peer_at}
use Rattle.rds_run_threads.specs.Ends.{AreAcknowledged, AreEnds}
use Rattle.rds_run_threads.proofs.Rows.{peer_apart}
use Rattle.rds_run_laws.specs.Calm.{IsCalm}
use Rattle.rds_run_laws.specs.Put.{sent_between}
use Rattle.rds_run_laws.specs.Weights.{Weight, accepted_sum, passed_sum}
use Rattle.rds_run_laws.proofs.At.{sum_up}
use Rattle.rds_run_laws.proofs.Carried.{accepted_all, came_all}
use Rattle.rds_run_laws.proofs.Crossing.{all_across, over_plus, routed_sum}
use Rattle.rds_run_laws.proofs.Handed.{all_read, data_sum, handed_all, peer_is}
use Rattle.rds_run_laws.proofs.Harmless.{only_sends}
use Rattle.rds_run_laws.proofs.Heard.{goes_to_slot}
use Rattle.rds_run_laws.proofs.Meeting.{host_within, meets_at, of_outcome, side_count}
use Rattle.rds_run_laws.proofs.Plain.{none_back}
use Rattle.rds_run_laws.proofs.Shares.{sum_up_plus}
use Rattle.rds_run_laws.proofs.SumLists.{sum_by_place, sum_flat, sum_mapped, sum_same}

module _ (v : Key → What → ℕ) where
  abbrev pub worth : Item → ℕ
  worth i = v i.group i.what

  -- an acceptance counts so much by its pair, and what is received by its payload too
  abbrev sent_worth : (from to : ℕ) → Weight
  sent_worth from to sport dport payload = v (record { to = to; dport = dport; from = from; sport = sport }) Accepted

  abbrev got_worth : (to from : ℕ) → Weight
  got_worth to from sport dport payload = v (record { to = to; dport = dport; from = from; sport = sport }) (Received payload)

  -- the same by the numbers of hosts
  abbrev pub sent_from : (from to : ℕ) → Weight
  sent_from from to = sent_worth (address_of from) (address_of to)

  abbrev pub got_from : (from to : ℕ) → Weight
  got_from from to = got_worth (address_of to) (address_of from)

  sent_are : (from to : ℕ) (lost : ℕ → Bool) (past : List Entry) → ((n : ℕ) → lost n ≡ false) →
      sum_by worth (sent_items from to lost past) ≡ accepted_sum (sent_worth from to) past
  sent_are from to lost [] none = refl
  sent_are from to lost (Accept slot sport dport payload ∷ past) none =
      let rest = sent_are from to lost past none in
      let both = sum_by-append worth (sent_items from to lost past) (accepted_items from to sport dport (lost (suc (accepted past)))) in
      let kept = ap (λ (b : Bool). sum_by worth (accepted_items from to sport dport b)) (none (suc (accepted past))) in
      let one = sum_by-cons worth (item to dport from sport Accepted) [] in
      omega (arith, rest, both, kept, one)
  sent_are from to lost (Cancel slot target ∷ past) none = sent_are from to lost past none
  sent_are from to lost (Open s ∷ past) none = sent_are from to lost past none
  sent_are from to lost (Pull s f ∷ past) none = sent_are from to lost past none
  sent_are from to lost (Read s f o ∷ past) none = sent_are from to lost past none
  sent_are from to lost (Shut s ∷ past) none = sent_are from to lost past none
  sent_are from to lost (Bad s h found ∷ past) none = sent_are from to lost past none

  -- what goes to slots leaves nothing to count where it came
  pub none_came : (from to : ℕ) (past : List Entry) →
      ((s : ℕ) (f : Frame) (o : Outcome) → passes o ≡ true → Contains past (Read s f o) → (slot : ℕ) × (o ≡ outcome.Slot slot)) → came_items from to past ≡ []
  none_came from to [] each = refl
  none_came from to (Read s f o ∷ past) each =
      go o (λ passed. (each s f o passed (0, omega arith, refl))) (none_came from to past (λ t g x passed (k, within, is). each t g x passed (suc k, omega (arith, within), is)))
    where
      go : (x : Outcome) → (passes x ≡ true → (slot : ℕ) × (x ≡ outcome.Slot slot)) → came_items from to past ≡ [] →
          came_items from to past ++ read_items to f.header.dport from f.header.sport x ≡ []
      go (outcome.Slot slot) goes ih = ap (λ (l : List Item). l ++ []) ih
      go outcome.NoSocket goes ih = absurd (let is = (goes refl).1 in cc)
      go outcome.Ping goes ih = absurd (let is = (goes refl).1 in cc)
      go outcome.Void goes ih = absurd (let is = (goes refl).1 in cc)
      go outcome.Old goes ih = ap (λ (l : List Item). l ++ []) ih
      go outcome.AckOnly goes ih = ap (λ (l : List Item). l ++ []) ih
      go outcome.Map goes ih = ap (λ (l : List Item). l ++ []) ih
      go outcome.OddMap goes ih = ap (λ (l : List Item). l ++ []) ih
  none_came from to (Accept slot sport dport payload ∷ past) each = none_came from to past (λ t g x passed (k, within, is). each t g x passed (suc k, omega (arith, within), is))
  none_came from to (Cancel slot target ∷ past) each = none_came from to past (λ t g x passed (k, within, is). each t g x passed (suc k, omega (arith, within), is))
  none_came from to (Open s ∷ past) each = none_came from to past (λ t g x passed (k, within, is). each t g x passed (suc k, omega (arith, within), is))
  none_came from to (Pull s f ∷ past) each = none_came from to past (λ t g x passed (k, within, is). each t g x passed (suc k, omega (arith, within), is))
  none_came from to (Shut s ∷ past) each = none_came from to past (λ t g x passed (k, within, is). each t g x passed (suc k, omega (arith, within), is))
  none_came from to (Bad s h found ∷ past) each = none_came from to past (λ t g x passed (k, within, is). each t g x passed (suc k, omega (arith, within), is))

  module _ (pulled : (s : ℕ) (f : Frame) (p past : List Entry) → IsLegal past → Moment (Pull s f ∷ p) past → is_map f ≡ true →
      (length f.payload ≡ MAP_LENGTH) × IsBytes f.payload)
      (hosts : ℕ) (commands : List Placed) (ends : List FinalHost) (calm : IsCalm hosts commands) (did : AreEnds true hosts commands ends)
      (acknowledged : AreAcknowledged ends) where
    module _ (host : ℕ) (end : FinalHost) (stands : slice_get ends host ≡ Some end) where
      side_worth : (place : ℕ) (side : FinalJournal) → slice_get end.sides place ≡ Some side →
          sum_by worth (side_items ends end.addr side) ≡ sent_between (sent_from host (peer_at host place)) host (peer_at host place) commands
      side_worth place side at =
          let m = meets_at hosts commands ends did acknowledged host place end side stands at in
          let own = only_sends hosts commands calm host (peer_at host place) side.past (host_within hosts commands ends did host end stands) m.known (peer_apart host place)
          (of_outcome hosts host place commands end.sides end.sockets side (did.did host end stands) at) in
          let none = none_came side.peer end.addr side.past (λ s f o passed inside.
          goes_to_slot pulled hosts commands ends calm did acknowledged host place end side stands at s f o passed inside) in
          let lost : ℕ → Bool = λ n. was_taken_back side.past n && not (was_passed (past_of side.peer end.addr ends) n) in
          let sent = sent_are end.addr side.peer lost side.past (λ n. ap (λ (b : Bool). b && not (was_passed (past_of side.peer end.addr ends) n)) (none_back side.past own n)) in
          let both = sum_by-append worth (sent_items end.addr side.peer lost side.past) (came_items side.peer end.addr side.past) in
          let came = ap (sum_by worth) none in
          let all = accepted_all pulled hosts commands ends calm did acknowledged (sent_from host (peer_at host place)) host place end side stands at in
          let addr = ap (λ (n : ℕ). accepted_sum (sent_worth n side.peer) side.past) (did.addresses host end stands) in
          let peer = ap (λ (n : ℕ). accepted_sum (sent_worth (address_of host) n) side.past) (peer_is pulled hosts commands ends calm did acknowledged host end stands place side at) in
          omega (arith, sent, both, came, all, addr, peer)

      socket_worth : (i : ℕ) (s : FinalSocket) → slice_get end.sockets i ≡ Some s →
          sum_by worth (socket_items end.addr s) ≡ data_sum (got_worth end.addr) s.got
      socket_worth i s at =
          let got = sum_mapped worth (λ (d : Datagram). item end.addr d.dport d.from d.sport (Received d.payload)) s.got in
          let both = sum_by-append worth (map (λ (d : Datagram). item end.addr d.dport d.from d.sport (Received d.payload)) s.got)
          (map (λ (d : Datagram). item end.addr d.dport d.from d.sport Unread) s.unread) in
          let none = ap (λ (l : List Datagram). sum_by worth (map (λ (d : Datagram). item end.addr d.dport d.from d.sport Unread) l))
          (all_read pulled hosts commands ends calm did acknowledged host end stands i s at) in
          omega (arith, got, both, none)

      abbrev one_way : ℕ → ℕ
      one_way i = sent_between (sent_from host (peer_at host i)) host (peer_at host i) commands

      abbrev other_way : ℕ → ℕ
      other_way i = sent_between (got_from (peer_at host i) host) (peer_at host i) host commands

      handed_worth : (i : ℕ) (s : FinalJournal) → slice_get end.sides i ≡ Some s → passed_sum (got_worth end.addr s.peer) s.past ≡ other_way (0 + i)
      handed_worth i s at =
          ap (λ (n : ℕ). passed_sum (got_worth n s.peer) s.past) (did.addresses host end stands)
          ∙ (ap (λ (n : ℕ). passed_sum (got_worth (address_of host) n) s.past) (peer_is pulled hosts commands ends calm did acknowledged host end stands i s at)
          ∙ (came_all pulled hosts commands ends calm did acknowledged (got_from (peer_at host i) host) host i end s stands at
          ∙ ap other_way (let n : i ≡ 0 + i = omega arith in n)))

      host_worth : sum_by worth (host_items ends end) ≡ sum_up (λ i. one_way i + other_way i) 0 (hosts - 1)
      host_worth =
          let both = sum_by-append worth (flat_map (side_items ends end.addr) end.sides) (flat_map (socket_items end.addr) end.sockets) in
          let sides = sum_flat worth (side_items ends end.addr) end.sides in
          let sockets = sum_flat worth (socket_items end.addr) end.sockets in
          let each = sum_same (λ (s : FinalSocket). sum_by worth (socket_items end.addr s)) (λ (s : FinalSocket). data_sum (got_worth end.addr) s.got) end.sockets socket_worth in
          let handed = handed_all pulled hosts commands ends calm did acknowledged host end stands (got_worth end.addr) in
          let one = sum_by_place (λ (s : FinalJournal). sum_by worth (side_items ends end.addr s)) one_way 0 end.sides
          (λ i s at. side_worth i s at ∙ ap one_way (let n : i ≡ 0 + i = omega arith in n)) in
          let other = sum_by_place (λ (s : FinalJournal). passed_sum (got_worth end.addr s.peer) s.past) other_way 0 end.sides handed_worth in
          let count = side_count hosts commands ends did host end stands in
          let long = ap (λ (n : ℕ). sum_up one_way 0 n + sum_up other_way 0 n) count in
          let split = sum_up_plus one_way other_way 0 (hosts - 1) in
          omega (arith, both, sides, sockets, each, handed, one, other, long, split)

    -- of all hosts
    pub all_worth : sum_by worth (items ends) ≡ routed_sum sent_from hosts commands + routed_sum got_from hosts commands
    all_worth =
        let flat = sum_flat worth (host_items ends) ends in
        let placed = sum_by_place (λ (h : FinalHost). sum_by worth (host_items ends h)) row 0 ends (λ h end at. host_worth h end at ∙ ap row (let n : h ≡ 0 + h = omega arith in n)) in
        let count = ap (λ (n : ℕ). sum_up row 0 n) did.count in
        let split = over_plus sent_from hosts (λ h i. sent_between (sent_from h (peer_at h i)) h (peer_at h i) commands) (λ h i. sent_between (got_from (peer_at h i) h) (peer_at h i) h commands) in
        let one = (all_across sent_from hosts commands calm).0 in
        let other = (all_across got_from hosts commands calm).1 in
        omega (arith, flat, placed, count, split, one, other)
      where
        row : ℕ → ℕ
        row h = sum_up (λ i. sent_between (sent_from h (peer_at h i)) h (peer_at h i) commands + sent_between (got_from (peer_at h i) h) (peer_at h i) h commands) 0 (hosts - 1)
