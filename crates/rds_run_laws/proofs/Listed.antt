-- In a run of a calm script each thing that is counted is of a port pair for which a datagram was accepted.
use Rattle.std.proofs.Common.{◌≡◌, inl, inr, ℕ, zero, suc, ◌==◌, ◌&&◌, ◌||◌, not, Bool, true, false, cond, All, Some, List, [], ◌∷◌, ◌++◌, length, map, filter, slice_get, refl, sym, ap, subst, ◌∙◌, arith}
use Rattle.std.specs.Prelude.{Contains, flat_map}
use Rattle.std.specs.List.{list_any}
use Rattle.std.proofs.lemmas.Bool.{cases_eq, eq-eqb, or_right}
use Rattle.std.proofs.lemmas.List.{append-nil}
use Rattle.std.proofs.lemmas.List.Elements.{All-cons, All-contains, All-nil, Contains-append_cases, Contains-append_left, Contains-append_right, Contains-push_cases}
use Rattle.rds_wire.specs.Bytes.{IsBytes}
use Rattle.rds_wire.specs.declared.frame.Frame.{Frame}
use Rattle.rds_wire.specs.declared.kind.TheConstants.{MAP_LENGTH}
use Rattle.rds_model.specs.declared.entry.Entry.{Entry}
use Rattle.rds_model.specs.declared.entry.Entry.TheVariants.{Accept, Cancel, Open, Pull, Read, Shut, Bad}
use Rattle.rds_model.specs.declared.entry.Outcome.{Outcome}
use Rattle.rds_model.specs.declared.order.Datagram.{Datagram}
use Rattle.rds_model.specs.Deliveries.{datagram_from, delivered_datagrams}
use Rattle.rds_model.specs.Legal.{IsLegal}
use Rattle.rds_model.specs.NumberLaws.{datagram_newest, datagram_other}
use Rattle.rds_model.specs.Owed.{is_map}
use Rattle.rds_model.specs.Pairs.{is_delivery_to}
use Rattle.rds_model.specs.Past.{Accepted as Taken, Moment, accepted, datagram, number, passes}
use Rattle.rds_model.specs.Streams.{was_passed}
use Rattle.rds_text.specs.FinalState.{FinalHost, FinalJournal, FinalSocket, past_of}
use Rattle.rds_text.specs.Hosts.{address_of}
use Rattle.rds_report.specs.Item.{Item, Accepted, Received, Unread}
use Rattle.rds_report.specs.ItemReport.{AllOfAccepted, accepted_pairs, is_accepted, is_same}
use Rattle.rds_report.specs.Items.{accepted_items, came_items, host_items, is_lost, item, items, seen, sent_items, side_items, socket_items}
use Rattle.rds_report.proofs.Orders.{same_itself}
use Rattle.rds_script.specs.declared.script.Placed.{Placed}
use Rattle.rds_run_rounds.specs.Grid.{peer_at}
use Rattle.rds_run_threads.specs.Ends.{AreAcknowledged, AreEnds}
use Rattle.rds_run_threads.specs.Reliable.{HandsOutDelivered, HasReceived, IsWithPeer, all_handed}
use Rattle.rds_run_threads.proofs.At.{all_at}
use Rattle.rds_run_threads.proofs.Rows.{peer_apart}
use Rattle.rds_run_laws.specs.Calm.{IsCalm}
use Rattle.rds_run_laws.specs.Weights.{OnlySends}
use Rattle.rds_run_laws.proofs.Handed.{all_read, peer_is}
use Rattle.rds_run_laws.proofs.Harmless.{only_sends}
use Rattle.rds_run_laws.proofs.Heard.{goes_to_slot, moment_of}
use Rattle.rds_run_laws.proofs.Itemed.{none_came}
use Rattle.rds_run_laws.proofs.Meeting.{MeetsAt, host_within, meets_at, of_outcome}
use Rattle.rds_run_laws.proofs.Plain.{delivery_passes, none_back}

-- members of lists

all_of : {X : Type 0} (P : X → Type 0) (xs : List X) → ((x : X) → Contains xs x → P x) → All P xs
all_of P [] each = All-nil P
all_of P (x ∷ xs) each = All-cons P x xs (each x (0, omega arith, refl)) (all_of P xs (λ y (k, within, is). each y (suc k, omega (arith, within), is)))

into_flat : {X Y : Type 0} (g : X → List Y) (xs : List X) (i : ℕ) (x : X) (y : Y) → slice_get xs i ≡ Some x → Contains (g x) y → Contains (flat_map g xs) y
into_flat {X} g [] i x y at inside = absurd (cc)
into_flat {X} g (z ∷ xs) zero x y at inside =
    let is : z ≡ x = cc in
    Contains-append_left (g z) (flat_map g xs) y (subst (λ (t : X). Contains (g t) y) (sym is) inside)
into_flat {X} g (z ∷ xs) (suc i) x y at inside = Contains-append_right (g z) (flat_map g xs) y (into_flat g xs i x y at inside)

from_flat : {X Y : Type 0} (g : X → List Y) (xs : List X) (y : Y) → Contains (flat_map g xs) y → (i : ℕ) × (x : X) × (slice_get xs i ≡ Some x) × Contains (g x) y
from_flat g [] y (k, within, is) = absurd (omega (arith, within))
from_flat g (z ∷ xs) y inside =
    elim (Contains-append_cases (g z) (flat_map g xs) y inside) [
      | inl here ↦ (0, z, refl, here)
      | inr later ↦ let rest = from_flat g xs y later in (suc rest.0, rest.1, rest.2, rest.3)
    ]

from_map : {X Y : Type 0} (g : X → Y) (xs : List X) (y : Y) → Contains (map g xs) y → (x : X) × Contains xs x × (g x ≡ y)
from_map g [] y (k, within, is) = absurd (omega (arith, within))
from_map g (z ∷ xs) y (zero, within, is) = (z, (0, omega arith, refl), is)
from_map g (z ∷ xs) y (suc k, within, is) =
    let rest = from_map g xs y (k, omega (arith, within), is) in
    let inside = rest.1 in
    let less = inside.1 in
    (rest.0, (suc inside.0, omega (arith, less), inside.2), rest.2)

into_filter : {X : Type 0} (test : X → Bool) (xs : List X) (x : X) → test x ≡ true → Contains xs x → Contains (filter test xs) x
into_filter test [] x such (k, within, is) = absurd (omega (arith, within))
into_filter {X} test (z ∷ xs) x such (zero, within, is) =
    subst (λ (y : X). Contains (cond (test y) (y ∷ filter test xs) (filter test xs)) x) (sym is)
    (subst (λ (b : Bool). Contains (cond b (x ∷ filter test xs) (filter test xs)) x) (sym such) (0, omega arith, refl))
into_filter test (z ∷ xs) x such (suc k, within, is) = go (test z) (into_filter test xs x such (k, omega (arith, within), is))
  where
    go : (b : Bool) → Contains (filter test xs) x → Contains (cond b (z ∷ filter test xs) (filter test xs)) x
    go true (i, less, same) = (suc i, omega (arith, less), same)
    go false inside = inside

-- an item that was accepted gives its pair
pair_there : (list : List Item) (i : Item) → Contains list i → is_accepted i.what ≡ true → list_any (is_same (seen i.group)) (accepted_pairs list) ≡ true
pair_there [] i (k, within, is) such = absurd (omega (arith, within))
pair_there (j ∷ list) i (zero, within, is) such =
    subst (λ (x : Item). list_any (is_same (seen i.group)) (accepted_pairs (x ∷ list)) ≡ true) (sym is)
    (ap (λ (b : Bool). list_any (is_same (seen i.group)) (map (λ (x : Item). seen x.group) (cond b (i ∷ filter (λ (x : Item). is_accepted x.what) list) (filter (λ (x : Item). is_accepted x.what) list)))) such
    ∙ ap (λ (b : Bool). b || list_any (is_same (seen i.group)) (accepted_pairs list)) (same_itself (seen i.group)))
pair_there (j ∷ list) i (suc k, within, is) such = go (is_accepted j.what) (pair_there list i (k, omega (arith, within), is) such)
  where
    go : (b : Bool) → list_any (is_same (seen i.group)) (accepted_pairs list) ≡ true →
        list_any (is_same (seen i.group)) (map (λ (x : Item). seen x.group) (cond b (j ∷ filter (λ (x : Item). is_accepted x.what) list) (filter (λ (x : Item). is_accepted x.what) list))) ≡ true
    go true there = or_right (is_same (seen i.group) (seen j.group)) (list_any (is_same (seen i.group)) (accepted_pairs list)) there
    go false there = there

-- what was sent is accepted, where nothing is lost
all_accepted : (from to : ℕ) (lost : ℕ → Bool) (past : List Entry) → ((n : ℕ) → lost n ≡ false) → (i : Item) → Contains (sent_items from to lost past) i → is_accepted i.what ≡ true
all_accepted from to lost [] none i (k, within, is) = absurd (omega (arith, within))
all_accepted from to lost (Accept slot sport dport payload ∷ past) none i inside =
    elim (Contains-append_cases (sent_items from to lost past) (accepted_items from to sport dport (lost (suc (accepted past)))) i inside) [
      | inl earlier ↦ all_accepted from to lost past none i earlier
      | inr last ↦ one (subst (λ (b : Bool). Contains (accepted_items from to sport dport b) i) (none (suc (accepted past))) last)
    ]
  where
    one : Contains (item to dport from sport Accepted ∷ []) i → is_accepted i.what ≡ true
    one (zero, within, is) = ap (λ (x : Item). is_accepted x.what) (sym is)
    one (suc k, within, is) = absurd (omega (arith, within))
all_accepted from to lost (Cancel slot target ∷ past) none i inside = all_accepted from to lost past none i inside
all_accepted from to lost (Open s ∷ past) none i inside = all_accepted from to lost past none i inside
all_accepted from to lost (Pull s f ∷ past) none i inside = all_accepted from to lost past none i inside
all_accepted from to lost (Read s f o ∷ past) none i inside = all_accepted from to lost past none i inside
all_accepted from to lost (Shut s ∷ past) none i inside = all_accepted from to lost past none i inside
all_accepted from to lost (Bad s h found ∷ past) none i inside = all_accepted from to lost past none i inside

-- each number that was accepted has its item
accepted_item : (from to : ℕ) (lost : ℕ → Bool) (past : List Entry) (n : ℕ) (d : Taken) → datagram past n ≡ Some d →
    Contains (sent_items from to lost past) (item to d.dport from d.sport Accepted)
accepted_item from to lost [] n d known = absurd (cc)
accepted_item from to lost (Accept slot sport dport payload ∷ past) n d known =
    elim (cases_eq n (suc (accepted past))) [
      | inl newest ↦
          let same : Some (record { place = length past; slot = slot; sport = sport; dport = dport; payload = payload }) ≡ Some d =
          sym (datagram_newest slot sport dport payload past n newest) ∙ known in
          let is : record { place = length past; slot = slot; sport = sport; dport = dport; payload = payload } ≡ d = cc in
          subst (λ (x : Taken). Contains (sent_items from to lost (Accept slot sport dport payload ∷ past)) (item to x.dport from x.sport Accepted)) is
          (Contains-append_right (sent_items from to lost past) (accepted_items from to sport dport (lost (suc (accepted past)))) (item to dport from sport Accepted)
          (first (lost (suc (accepted past)))))
      | inr other ↦
          Contains-append_left (sent_items from to lost past) (accepted_items from to sport dport (lost (suc (accepted past)))) (item to d.dport from d.sport Accepted)
          (accepted_item from to lost past n d (sym (datagram_other slot sport dport payload past n other) ∙ known))
    ]
  where
    first : (b : Bool) → Contains (accepted_items from to sport dport b) (item to dport from sport Accepted)
    first true = (0, omega arith, refl)
    first false = (0, omega arith, refl)
accepted_item from to lost (Cancel slot target ∷ past) n d known = accepted_item from to lost past n d known
accepted_item from to lost (Open s ∷ past) n d known = accepted_item from to lost past n d known
accepted_item from to lost (Pull s f ∷ past) n d known = accepted_item from to lost past n d known
accepted_item from to lost (Read s f o ∷ past) n d known = accepted_item from to lost past n d known
accepted_item from to lost (Shut s ∷ past) n d known = accepted_item from to lost past n d known
accepted_item from to lost (Bad s h found ∷ past) n d known = accepted_item from to lost past n d known

-- what was delivered was read
record WasRead (from : ℕ) (past : List Entry) (d : Datagram) : Type 0 where
  stream : ℕ
  frame : Frame
  outcome : Outcome
  inside : Contains past (Read stream frame outcome)
  passed : passes outcome ≡ true
  is : datagram_from from frame ≡ d

later : (from : ℕ) (e : Entry) (past : List Entry) (d : Datagram) → WasRead from past d → WasRead from (e ∷ past) d
later from e past d was =
    let inside = was.inside in
    let within = inside.1 in
    record { stream = was.stream; frame = was.frame; outcome = was.outcome; inside = (suc inside.0, omega (arith, within), inside.2); passed = was.passed; is = was.is }

was_read : (from slot : ℕ) (past : List Entry) (d : Datagram) → Contains (delivered_datagrams from slot past) d → WasRead from past d
was_read from slot [] d (k, within, is) = absurd (omega (arith, within))
was_read from slot (Read s f o ∷ past) d inside = go (is_delivery_to slot o) refl (λ earlier. later from (Read s f o) past d (was_read from slot past d earlier)) inside
  where
    go : (b : Bool) → is_delivery_to slot o ≡ b → (Contains (delivered_datagrams from slot past) d → WasRead from (Read s f o ∷ past) d) →
        Contains (cond b (delivered_datagrams from slot past ++ datagram_from from f ∷ []) (delivered_datagrams from slot past)) d → WasRead from (Read s f o ∷ past) d
    go false to before found = before found
    go true to before found =
        elim (Contains-push_cases (delivered_datagrams from slot past) (datagram_from from f) d found) [
          | inl earlier ↦ before earlier
          | inr last ↦ record { stream = s; frame = f; outcome = o; inside = (0, omega arith, refl); passed = delivery_passes slot o to; is = last }
        ]
was_read from slot (Accept k sport dport payload ∷ past) d inside = later from (Accept k sport dport payload) past d (was_read from slot past d inside)
was_read from slot (Cancel k target ∷ past) d inside = later from (Cancel k target) past d (was_read from slot past d inside)
was_read from slot (Open s ∷ past) d inside = later from (Open s) past d (was_read from slot past d inside)
was_read from slot (Pull s f ∷ past) d inside = later from (Pull s f) past d (was_read from slot past d inside)
was_read from slot (Shut s ∷ past) d inside = later from (Shut s) past d (was_read from slot past d inside)
was_read from slot (Bad s h found ∷ past) d inside = later from (Bad s h found) past d (was_read from slot past d inside)

module _ (pulled : (s : ℕ) (f : Frame) (p past : List Entry) → IsLegal past → Moment (Pull s f ∷ p) past → is_map f ≡ true →
    (length f.payload ≡ MAP_LENGTH) × IsBytes f.payload)
    (hosts : ℕ) (commands : List Placed) (ends : List FinalHost) (calm : IsCalm hosts commands) (did : AreEnds true hosts commands ends)
    (acknowledged : AreAcknowledged ends) where
  abbrev HasPair : Item → Type 0
  HasPair i = list_any (is_same (seen i.group)) (accepted_pairs (items ends)) ≡ true

  -- an item of what a journal sent is among all
  among_all : (host place : ℕ) (end : FinalHost) (side : FinalJournal) → slice_get ends host ≡ Some end → slice_get end.sides place ≡ Some side → (i : Item) →
      Contains (side_items ends end.addr side) i → Contains (items ends) i
  among_all host place end side stands at i inside =
      into_flat (host_items ends) ends host end i stands
      (Contains-append_left (flat_map (side_items ends end.addr) end.sides) (flat_map (socket_items end.addr) end.sockets) i
      (into_flat (side_items ends end.addr) end.sides place side i at inside))

  -- the pair of a datagram that a journal accepted
  sent_pair : (host place : ℕ) (end : FinalHost) (side : FinalJournal) → slice_get ends host ≡ Some end → slice_get end.sides place ≡ Some side → (n : ℕ) (d : Taken) →
      datagram side.past n ≡ Some d → HasPair (item side.peer d.dport end.addr d.sport Accepted)
  sent_pair host place end side stands at n d known =
      let lost = is_lost side.past (past_of side.peer end.addr ends) in
      let one = item side.peer d.dport end.addr d.sport Accepted in
      pair_there (items ends) one
      (among_all host place end side stands at one
      (Contains-append_left (sent_items end.addr side.peer lost side.past) (came_items side.peer end.addr side.past) one
      (accepted_item end.addr side.peer lost side.past n d known)))
      refl

  module _ (host : ℕ) (end : FinalHost) (stands : slice_get ends host ≡ Some end) where
    of_side : (place : ℕ) (side : FinalJournal) → slice_get end.sides place ≡ Some side → (i : Item) → Contains (side_items ends end.addr side) i → HasPair i
    of_side place side at i inside =
        elim (Contains-append_cases (sent_items end.addr side.peer lost side.past) (came_items side.peer end.addr side.past) i inside) [
          | inl sent ↦
              pair_there (items ends) i (among_all host place end side stands at i inside)
              (all_accepted end.addr side.peer lost side.past
              (λ n. ap (λ (b : Bool). b && not (was_passed (past_of side.peer end.addr ends) n)) (none_back side.past own n)) i sent)
          | inr came ↦ absurd (nothing came)
        ]
      where
        lost : ℕ → Bool
        lost = is_lost side.past (past_of side.peer end.addr ends)

        own : OnlySends side.past
        own =
            let m = meets_at hosts commands ends did acknowledged host place end side stands at in
            only_sends hosts commands calm host (peer_at host place) side.past (host_within hosts commands ends did host end stands) m.known (peer_apart host place)
            (of_outcome hosts host place commands end.sides end.sockets side (did.did host end stands) at)

        nothing : Contains (came_items side.peer end.addr side.past) i → ⊥
        nothing came =
            let none = none_came (λ key what. 0) side.peer end.addr side.past (λ s f o passed found.
            goes_to_slot pulled hosts commands ends calm did acknowledged host place end side stands at s f o passed found) in
            let empty = subst (λ (l : List Item). Contains l i) none came in
            let less = empty.1 in
            absurd (omega (arith, less))

    -- the pair of what was read from a peer
    of_read : (place : ℕ) (side : FinalJournal) → slice_get end.sides place ≡ Some side → (d : Datagram) → WasRead side.peer side.past d → side.peer ≡ d.from →
        MeetsAt hosts ends host place side.past → HasPair (item end.addr d.dport d.from d.sport (Received d.payload))
    of_read place side at d was peer m =
        let moment = moment_of (Read was.stream was.frame was.outcome) side.past was.inside in
        let taken = m.met.back.accepted was.stream was.frame was.outcome moment.0 moment.1 was.passed in
        with_pair place side at d peer m taken.0 (sent_pair (peer_at host place) m.turn m.other m.back m.stands m.at (number was.frame) taken.0 taken.1)
        (sym taken.2.dport ∙ ap (λ (y : Datagram). y.dport) was.is) (sym taken.2.sport ∙ ap (λ (y : Datagram). y.sport) was.is)
      where
        same : (a b c e f g h j : ℕ) → a ≡ b → c ≡ e → f ≡ g → h ≡ j →
            list_any (is_same (record { to = a; dport = c; from = f; sport = h })) (accepted_pairs (items ends)) ≡ true →
            list_any (is_same (record { to = b; dport = e; from = g; sport = j })) (accepted_pairs (items ends)) ≡ true
        same a b c e f g h j p q r t is =
            subst (λ (x : ℕ). list_any (is_same (record { to = b; dport = e; from = g; sport = x })) (accepted_pairs (items ends)) ≡ true) t
            (subst (λ (x : ℕ). list_any (is_same (record { to = b; dport = e; from = x; sport = h })) (accepted_pairs (items ends)) ≡ true) r
            (subst (λ (x : ℕ). list_any (is_same (record { to = b; dport = x; from = f; sport = h })) (accepted_pairs (items ends)) ≡ true) q
            (subst (λ (x : ℕ). list_any (is_same (record { to = x; dport = c; from = f; sport = h })) (accepted_pairs (items ends)) ≡ true) p is)))

        with_pair : (spot : ℕ) (s : FinalJournal) → slice_get end.sides spot ≡ Some s → (x : Datagram) → s.peer ≡ x.from → (met : MeetsAt hosts ends host spot s.past) (t : Taken) →
            HasPair (item met.back.peer t.dport met.other.addr t.sport Accepted) → t.dport ≡ x.dport → t.sport ≡ x.sport →
            HasPair (item end.addr x.dport x.from x.sport (Received x.payload))
        with_pair spot s at_s x peer_of met t there dport sport =
            same met.back.peer end.addr t.dport x.dport met.other.addr x.from t.sport x.sport
            (peer_is pulled hosts commands ends calm did acknowledged (peer_at host spot) met.other met.stands met.turn met.back met.at
            ∙ (ap address_of met.there ∙ sym (did.addresses host end stands)))
            dport
            (did.addresses (peer_at host spot) met.other met.stands ∙ (sym (peer_is pulled hosts commands ends calm did acknowledged host end stands spot s at_s) ∙ peer_of))
            sport there

    -- the pair of what a socket handed out
    of_received : (k : ℕ) (s : FinalSocket) → slice_get end.sockets k ≡ Some s → (d : Datagram) → Contains s.got d →
        HasPair (item end.addr d.dport d.from d.sport (Received d.payload))
    of_received k s at_s d got =
        let received = all_at HasReceived ends host end did.received stands in
        let handed : Contains (all_handed s) d = Contains-append_left s.got s.unread d got in
        let known = all_at (λ (x : FinalSocket). All (λ (y : Datagram). IsWithPeer end.sides y.from) (all_handed x)) end.sockets k s received.known at_s in
        let with = All-contains (λ (y : Datagram). IsWithPeer end.sides y.from) (all_handed s) d known handed in
        let place = with.0 in
        let side = with.1 in
        let delivered = all_at (HandsOutDelivered s) end.sides place side (all_at (λ (x : FinalSocket). All (HandsOutDelivered x) end.sides) end.sockets k s received.delivered at_s) with.2 in
        let found = into_filter (λ (y : Datagram). y.from == side.peer) (all_handed s) d (eq-eqb d.from side.peer (sym with.3)) handed in
        of_read place side with.2 d (was_read side.peer s.slot side.past d (subst (λ (l : List Datagram). Contains l d) delivered found)) with.3
        (meets_at hosts commands ends did acknowledged host place end side stands with.2)

    of_socket : (k : ℕ) (s : FinalSocket) → slice_get end.sockets k ≡ Some s → (i : Item) → Contains (socket_items end.addr s) i → HasPair i
    of_socket k s at_s i inside =
        let gone = ap (λ (l : List Datagram). got ++ map (λ (d : Datagram). item end.addr d.dport d.from d.sport Unread) l)
        (all_read pulled hosts commands ends calm did acknowledged host end stands k s at_s) ∙ append-nil got in
        let found = from_map (λ (d : Datagram). item end.addr d.dport d.from d.sport (Received d.payload)) s.got i (subst (λ (l : List Item). Contains l i) gone inside) in
        subst HasPair found.2 (of_received k s at_s found.0 found.1)
      where
        got : List Item
        got = map (λ (d : Datagram). item end.addr d.dport d.from d.sport (Received d.payload)) s.got

    of_host : (i : Item) → Contains (host_items ends end) i → HasPair i
    of_host i inside =
        elim (Contains-append_cases (flat_map (side_items ends end.addr) end.sides) (flat_map (socket_items end.addr) end.sockets) i inside) [
          | inl sides ↦ let side = from_flat (side_items ends end.addr) end.sides i sides in of_side side.0 side.1 side.2 i side.3
          | inr sockets ↦ let socket = from_flat (socket_items end.addr) end.sockets i sockets in of_socket socket.0 socket.1 socket.2 i socket.3
        ]

  pub all_listed : AllOfAccepted (items ends)
  all_listed = all_of HasPair (items ends) (λ i inside. let end = from_flat (host_items ends) ends i inside in of_host end.0 end.1 end.2 i end.3)
