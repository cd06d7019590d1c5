-- The cuts that a host's commands ask for are put by its last slot.
use Rattle.std.proofs.Common.{◌≡◌, ◌≢◌, ◌+◌, ◌-◌, ◌<◌, ◌≤◌, ◌==◌, ◌&&◌, ◌⊎◌, ℕ, suc, nat_lt, cond, Bool, true, false, List, [], ◌∷◌, Ok, Some, inl, inr, filter, length, map, option_map, set, slice_get, refl, sym, ap, subst, ◌∙◌, arith}
use Rattle.std.specs.List.{range_with_len}
use Rattle.std.proofs.lemmas.Bool.{eqb-true, false≢true, ltb-false}
use Rattle.std.proofs.lemmas.List.{length-map, length-set}
use Rattle.std.proofs.lemmas.List.FromFn.{get_or-range_with_len, length-range_with_len}
use Rattle.std.proofs.lemmas.Option.{get_or_from_slice_get, slice_get-map, slice_get_within}
use Rattle.rds_model.specs.declared.entry.TheConstants.{MAX_SLOTS}
use Rattle.rds_model.specs.declared.order.Datagram.{Datagram}
use Rattle.rds_model.specs.declared.order.Order.TheVariants as order
use Rattle.rds_fmap.specs.Readers.{ReaderView}
use Rattle.rds_socket_parts.specs.Lanes.{IsLaneAt, Lane, peers_of}
use Rattle.rds_socket.specs.Binds.{BindAnyFits, BindFits}
use Rattle.rds_socket.specs.Holding.{Holding, Open}
use Rattle.rds_text.specs.Hosts.{address_of}
use Rattle.rds_script.specs.declared.script.Command.{Command}
use Rattle.rds_script.specs.declared.script.Command.TheVariants as script
use Rattle.rds_script.specs.declared.script.Placed.{Placed}
use Rattle.rds_run_callers.specs.Commands.{commander}
use Rattle.rds_run_callers.specs.Doing.{AtPort, BindsNext, IsDone, IsFirstFree}
use Rattle.rds_run_callers.specs.Places.{Bound, Ended, Place, Spare, Vacant, holding_of, with_holding}
use Rattle.rds_run_callers.specs.Tenants.{Asks, Cancels, Closes, ReceivesNext, SendsFrom}
use Rattle.rds_run_hosts.specs.Obeyed.{AreNewPlaces, DoesCommand, HasDone, HasObeyed, is_bind_of, slot_count, within_slots}
use Rattle.rds_run_rounds.specs.Grid.{others, peer_at}
use Rattle.rds_run_threads.specs.Outcome.{cuts_to, is_cut_to}
use Rattle.rds_run_threads.proofs.At.{all_at, at_map, at_set, beside_set, one_at, some_at}
use Rattle.rds_run_threads.proofs.CutsPut.{HasPut, Keeps, asks, cancels, closes, either_way, keeps_same, put_cut, receives, sends_from}
use Rattle.rds_run_threads.proofs.Rows.{place_is}

module _ (place peer : ℕ) where
  -- the last slot has put so many cuts there
  pub record LastHasPut (n : ℕ) (places : List Place) : Type 0 where
    pub slot : ℕ
    pub p : Place
    pub last : slot + 1 ≡ length places
    pub at : slice_get places slot ≡ Some p
    pub cut : HasPut place peer n (holding_of p).routes

  stays : (n : ℕ) (old new : List Place) → new ≡ old → LastHasPut n old → LastHasPut n new
  stays n old new same h = subst (λ (l : List Place). LastHasPut n l) (sym same) h

  slot_keeps : (n : ℕ) (old : List Place) (slot : ℕ) (p q : Place) → slice_get old slot ≡ Some p → Keeps place peer (holding_of p) (holding_of q) →
      LastHasPut n old → LastHasPut n (set old slot q)
  slot_keeps n old slot p q at keeps h =
      let long = length-set old slot q in
      let was = h.last in
      either_way slot h.slot
      (λ is.
      let p_is : h.p ≡ p = one_at old slot h.p p (subst (λ (j : ℕ). slice_get old j ≡ Some h.p) (sym is) h.at) at in record {
        slot = slot;
        p = q;
        last = omega (arith, long, was, is);
        at = at_set old slot q (slice_get_within old slot p at);
        cut = keeps n (subst (λ (x : Place). HasPut place peer n (holding_of x).routes) p_is h.cut);
      })
      (λ apart. record {
        slot = h.slot;
        p = h.p;
        last = omega (arith, long, was);
        at = beside_set old slot h.slot q (λ e. apart (sym e)) ∙ h.at;
        cut = h.cut;
      })

  binds_next : (Fits : Holding ReaderView → Open ReaderView → Type 0) (n : ℕ) (old new : List Place) →
      ((v : Holding ReaderView) (o : Open ReaderView) → Fits v o → o.own.routes ≡ v.routes) → BindsNext Fits old new → LastHasPut n old → LastHasPut n new
  binds_next Fits n old new same is h =
      subst (λ (l : List Place). LastHasPut n l) (sym is.5)
      (slot_keeps n old is.0 (Vacant is.1) (Bound is.2 []) is.3.0 (keeps_same place peer is.1 is.2.own (same is.1 is.2 is.4)) h)

  at_port : (Rel : Open ReaderView → List Datagram → Place → Type 0) (n port : ℕ) (old new : List Place) →
      ((o : Open ReaderView) (got : List Datagram) (p : Place) → Rel o got p → Keeps place peer o.own (holding_of p)) → AtPort port Rel old new → LastHasPut n old → LastHasPut n new
  at_port Rel n port old new keeps (inl is) h =
      subst (λ (l : List Place). LastHasPut n l) (sym is.5.2)
      (slot_keeps n old is.0 (Bound is.1 is.2) is.5.0 is.3 (keeps is.1 is.2 is.5.0 is.5.1) h)
  at_port Rel n port old new keeps (inr none) h = stays n old new none.1 h

  holds : (p : Place) (k : Holding ReaderView) → holding_of (with_holding p k) ≡ k
  holds (Vacant v) k = refl
  holds (Bound o got) k = refl
  holds (Ended port v got) k = refl
  holds (Spare v) k = refl

  -- a command that was done keeps what was put
  done : (n : ℕ) (command : Command) (old new : List Place) → IsDone command old new → LastHasPut n old → LastHasPut n new
  done n (script.Bind host port sndbuf rcvbuf) old new (inl is) h =
      binds_next (λ v o. BindFits v port sndbuf rcvbuf (Ok o)) n old new (λ v o fits. ap (λ (x : Open ReaderView). x.own.routes) fits.1) is.2 h
  done n (script.Bind host port sndbuf rcvbuf) old new (inr cannot) h = stays n old new cannot.1 h
  done n (script.BindAny host port sndbuf rcvbuf) old new (inl is) h =
      binds_next (λ v o. BindAnyFits v port sndbuf rcvbuf (Ok o) × IsFirstFree old port o.port) n old new
      (λ v o fits. ap (λ (x : Open ReaderView). x.own.routes) fits.0.1) is h
  done n (script.BindAny host port sndbuf rcvbuf) old new (inr cannot) h = stays n old new cannot.1 h
  done n (script.Send host port to dport payload) old new is h =
      at_port (SendsFrom (address_of to) dport payload) n port old new (sends_from place peer (address_of to) dport payload) is h
  done n (script.Recv host port) old new is h = at_port ReceivesNext n port old new (receives place peer) is h
  done n (script.Cancel host port to dport) old new is h = at_port (Cancels (address_of to) dport) n port old new (cancels place peer (address_of to) dport) is h
  done n (script.Close host port) old new is h = at_port Closes n port old new (closes place peer) is h
  done n (script.Open host to) old new is h = stays n old new is h
  done n (script.Move host to bytes) old new is h = stays n old new is h
  done n (script.Cut host to) old new (inl is) h =
      let keeps : Keeps place peer (holding_of is.1) (holding_of is.2) = λ k put.
      subst (λ (x : Place). HasPut place peer k (holding_of x).routes) (sym is.5.2)
      (subst (λ (x : Holding ReaderView). HasPut place peer k x.routes) (sym (holds is.1 is.5.0)) (asks place peer (address_of to) order.Cut (holding_of is.1) is.5.0 is.5.1 k put)) in
      subst (λ (l : List Place). LastHasPut n l) (sym is.6) (slot_keeps n old is.0 is.1 is.2 is.4 keeps h)
  done n (script.Cut host to) old new (inr none) h = stays n old new none.1 h
  done n script.Drain old new is h = stays n old new is h

  -- a cut of the peer's stream was put there
  cut_asked : (n to : ℕ) (old new : Holding ReaderView) → to ≡ peer → Asks to order.Cut old new → HasPut place peer n old.routes → HasPut place peer (suc n) new.routes
  cut_asked n to old new same (inl put) h =
      let way = put.0.1 in
      put_cut place peer n put.0.0 old.routes new.routes (h.only put.0.0 way.0 way.1 (way.2 ∙ same)) put.0.2 h
  cut_asked n to old new same (inr none) h =
      absurd (all_at (λ (l : Lane ReaderView). l.peer ≢ to) old.routes place h.lane none.0 h.at (h.to ∙ sym same))

  cut_done : (n by to : ℕ) (old new : List Place) → address_of to ≡ peer → IsDone (script.Cut by to) old new → LastHasPut n old → LastHasPut (suc n) new
  cut_done n by to old new same (inl is) h =
      let was = h.last in
      let here : is.0 ≡ h.slot = let last = is.3 in omega (arith, was, last) in
      let p_is : h.p ≡ is.1 = one_at old is.0 h.p is.1 (subst (λ (j : ℕ). slice_get old j ≡ Some h.p) (sym here) h.at) is.4 in
      let put = cut_asked n (address_of to) (holding_of is.1) is.5.0 same is.5.1 (subst (λ (x : Place). HasPut place peer n (holding_of x).routes) p_is h.cut) in
      let long = length-set old is.0 is.2 in
      let first = is.3 in
      subst (λ (l : List Place). LastHasPut (suc n) l) (sym is.6)
      (record {
        slot = is.0;
        p = is.2;
        last = omega (arith, long, first);
        at = at_set old is.0 is.2 (slice_get_within old is.0 is.1 is.4);
        cut = subst (λ (x : Place). HasPut place peer (suc n) (holding_of x).routes) (sym is.5.2)
            (subst (λ (x : Holding ReaderView). HasPut place peer (suc n) x.routes) (sym (holds is.1 is.5.0)) put);
      })
  cut_done n by to old new same (inr none) h = absurd (let last = h.last in let empty = ap length none.0 in omega (arith, last, empty))

  both_true : (a b : Bool) → (a && b) ≡ true → (a ≡ true) × (b ≡ true)
  both_true true b is = (refl, is)
  both_true false b is = absurd (false≢true is)

  -- each command of the host that cuts the peer's stream puts one cut more
  step_cut : (n host : ℕ) (placed : Placed) (old new : List Place) → is_cut_to host peer placed.command ≡ true → DoesCommand host placed old new →
      LastHasPut n old → LastHasPut (suc n) new
  step_cut n host placed old new is did h = go placed.command is did
    where
      go : (command : Command) → is_cut_to host peer command ≡ true →
          ((commander command ≡ Some host) × IsDone command old new) ⊎ ((commander command ≢ Some host) × (new ≡ old)) → LastHasPut (suc n) new
      go (script.Cut by to) cut (inl own) =
          let both = both_true (by == host) (address_of to == peer) cut in
          cut_done n by to old new (eqb-true (address_of to) peer both.1) own.1 h
      go (script.Cut by to) cut (inr other) =
          let both = both_true (by == host) (address_of to == peer) cut in
          absurd (other.0 (ap Some (eqb-true by host both.0)))
      go (script.Bind host' port sndbuf rcvbuf) cut either = absurd (false≢true cut)
      go (script.BindAny host' port sndbuf rcvbuf) cut either = absurd (false≢true cut)
      go (script.Send host' port to dport payload) cut either = absurd (false≢true cut)
      go (script.Recv host' port) cut either = absurd (false≢true cut)
      go (script.Cancel host' port to dport) cut either = absurd (false≢true cut)
      go (script.Close host' port) cut either = absurd (false≢true cut)
      go (script.Open host' to) cut either = absurd (false≢true cut)
      go (script.Move host' to bytes) cut either = absurd (false≢true cut)
      go script.Drain cut either = absurd (false≢true cut)

  step_kept : (n host : ℕ) (placed : Placed) (old new : List Place) → DoesCommand host placed old new → LastHasPut n old → LastHasPut n new
  step_kept n host placed old new (inl own) h = done n placed.command old new own.1 h
  step_kept n host placed old new (inr other) h = stays n old new other.1 h

  all_steps : (n host : ℕ) (commands : List Placed) (old new : List Place) → HasObeyed host commands old new → LastHasPut n old →
      LastHasPut (n + cuts_to host peer commands) new
  all_steps n host [] old new is h =
      let same : n ≡ n + 0 = omega arith in
      subst (λ (k : ℕ). LastHasPut k new) same (stays n old new is h)
  all_steps n host (placed ∷ commands) old new is h = go (is_cut_to host peer placed.command) refl (λ k. all_steps k host commands is.0 new is.2)
    where
      go : (cut : Bool) → is_cut_to host peer placed.command ≡ cut → ((k : ℕ) → LastHasPut k is.0 → LastHasPut (k + cuts_to host peer commands) new) →
          LastHasPut (n + cuts_to host peer (placed ∷ commands)) new
      go true cut later =
          let rest = filter (λ (other : Placed). is_cut_to host peer other.command) commands in
          let more : cuts_to host peer (placed ∷ commands) ≡ suc (cuts_to host peer commands) =
          ap (λ (b : Bool). length (cond b (placed ∷ rest) rest)) cut in
          let count : suc n + cuts_to host peer commands ≡ n + cuts_to host peer (placed ∷ commands) = omega (arith, more) in
          subst (λ (k : ℕ). LastHasPut k new) count (later (suc n) (step_cut n host placed old is.0 cut is.1 h))
      go false cut later =
          let rest = filter (λ (other : Placed). is_cut_to host peer other.command) commands in
          let same : cuts_to host peer (placed ∷ commands) ≡ cuts_to host peer commands =
          ap (λ (b : Bool). length (cond b (placed ∷ rest) rest)) cut in
          let count : n + cuts_to host peer commands ≡ n + cuts_to host peer (placed ∷ commands) = omega (arith, same) in
          subst (λ (k : ℕ). LastHasPut k new) count (later n (step_kept n host placed old is.0 is.1 h))

-- a host has a slot
some_slots : (n : ℕ) → 1 ≤ within_slots n
some_slots n = go (nat_lt n 1) refl (nat_lt MAX_SLOTS n)
  where
    go : (few : Bool) → nat_lt n 1 ≡ few → (many : Bool) → 1 ≤ cond few 1 (cond many MAX_SLOTS n)
    go true is many = omega arith
    go false is true = omega arith
    go false is false = let least = ltb-false n 1 is in omega (arith, least)

-- the route at each place of a new slot leads to the peer of that place
lane_to : (hosts host i : ℕ) (routes : List (Lane ReaderView)) (lane : Lane ReaderView) → peers_of routes ≡ map address_of (others hosts host) →
    IsLaneAt routes i lane → lane.peer ≡ address_of (peer_at host i)
lane_to hosts host i routes lane same at =
    let numbers = range_with_len 0 (hosts - 1) in
    let address = at_map address_of (others hosts host) i lane.peer
    (subst (λ (l : List ℕ). slice_get l i ≡ Some lane.peer) same
    (slice_get-map (λ (l : Lane ReaderView). l.peer) routes i ∙ ap (option_map (λ (l : Lane ReaderView). l.peer)) at)) in
    let number = at_map (peer_at host) numbers i address.0 address.1 in
    let within = slice_get_within numbers i number.0 number.1 in
    let long = length-range_with_len 0 (hosts - 1) in
    let read = get_or-range_with_len 0 (hosts - 1) i number.0 (omega (arith, within, long)) in
    let is : number.0 ≡ i = sym (get_or_from_slice_get numbers i number.0 number.0 number.1) ∙ (read ∙ omega arith) in
    address.2 ∙ ap address_of (number.2 ∙ ap (peer_at host) is)

-- new slots have put no cut
new_slots : (hosts host place : ℕ) (first : List Place) → 1 ≤ length first → AreNewPlaces hosts host first → suc place < hosts →
    LastHasPut place (address_of (peer_at host place)) 0 first
new_slots hosts host place first some new within =
    let p = some_at first (length first - 1) (omega (arith, some)) in
    let is = new (length first - 1) p.0 p.1 in
    let routes = is.holding.routes in
    let count : length routes ≡ hosts - 1 =
    sym (length-map routes (λ (l : Lane ReaderView). l.peer))
    ∙ (ap length is.routes
    ∙ (length-map (others hosts host) address_of ∙ (length-map (range_with_len 0 (hosts - 1)) (peer_at host) ∙ length-range_with_len 0 (hosts - 1)))) in
    let lane = some_at routes place (omega (arith, count, within)) in
    record {
      slot = length first - 1;
      p = p.0;
      last = omega (arith, some);
      at = p.1;
      cut = subst (λ (x : Place). HasPut place (address_of (peer_at host place)) 0 (holding_of x).routes) (sym is.vacant)
          (record {
            lane = lane.0;
            at = lane.1;
            to = lane_to hosts host place routes lane.0 is.routes lane.1;
            only = λ other way at to.
                let there = lane_to hosts host other routes way is.routes at in
                place_is host other place (omega (arith, there, to));
            cuts = omega arith;
          });
    }

-- the last slot has put as many cuts there as the commands ask for
pub cuts_of_done : (hosts host place : ℕ) (commands : List Placed) (last : List Place) → HasDone hosts host commands last → suc place < hosts →
    LastHasPut place (address_of (peer_at host place)) (cuts_to host (address_of (peer_at host place)) commands) last
cuts_of_done hosts host place commands last did within =
    let peer = address_of (peer_at host place) in
    let some : 1 ≤ slot_count host commands = some_slots (length (filter (is_bind_of host) commands)) in
    let count = did.count in
    let same : 0 + cuts_to host peer commands ≡ cuts_to host peer commands = omega arith in
    subst (λ (k : ℕ). LastHasPut place peer k last) same
    (all_steps place peer 0 host commands did.first last did.obeyed (new_slots hosts host place did.first (omega (arith, some, count)) did.new within))
