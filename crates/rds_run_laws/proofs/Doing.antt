-- A host's slots put at most one order a command on their routes at one place, all together.
use Rattle.std.proofs.Common.{◌≡◌, ◌+◌, ◌-◌, ◌<◌, ◌≤◌, ℕ, zero, suc, cond, Bool, true, false, List, [], ◌∷◌, Ok, Some, All, inl, inr, filter, length, set, slice_get, refl, sym, ap, subst, ◌∙◌, arith}
use Rattle.std.specs.List.{range_with_len}
use Rattle.std.proofs.lemmas.List.{length-map}
use Rattle.std.proofs.lemmas.List.FromFn.{length-range_with_len}
use Rattle.std.proofs.lemmas.Option.{get_or_from_slice_get, same_Some}
use Rattle.rds_model.specs.declared.order.Datagram.{Datagram}
use Rattle.rds_model.specs.declared.order.Order.{Order}
use Rattle.rds_model.specs.declared.order.Order.TheVariants as order
use Rattle.rds_fmap.specs.Readers.{ReaderView}
use Rattle.rds_socket_parts.specs.Lanes.{Lane}
use Rattle.rds_socket.specs.Binds.{BindAnyFits, BindFits}
use Rattle.rds_socket.specs.Holding.{Holding, Open}
use Rattle.rds_line.specs.Keeps.{uncut}
use Rattle.rds_text.specs.Hosts.{address_of}
use Rattle.rds_script.specs.declared.script.Command.{Command}
use Rattle.rds_script.specs.declared.script.Command.TheVariants as script
use Rattle.rds_script.specs.declared.script.Placed.{Placed}
use Rattle.rds_run_callers.specs.Commands.{commander}
use Rattle.rds_run_callers.specs.Doing.{AtPort, BindsNext, IsDone, IsFirstFree}
use Rattle.rds_run_callers.specs.Places.{Bound, Ended, Place, Spare, Vacant, holding_of, with_holding}
use Rattle.rds_run_callers.specs.Tenants.{Cancels, Closes, ReceivesNext, SendsFrom}
use Rattle.rds_run_hosts.specs.Obeyed.{AreNewPlaces, DoesCommand, HasDone, HasObeyed, is_host}
use Rattle.rds_run_rounds.specs.Grid.{others, peer_at}
use Rattle.rds_run_laws.specs.Few.{is_own}
use Rattle.rds_run_laws.proofs.Weighing.{weigh, weight_of}
use Rattle.rds_run_laws.proofs.At.{same_number, some_at}
use Rattle.rds_run_laws.proofs.Asked.{HasAsked, Keeps, asks, cancels, closes, keeps_same, receives, sends_from}

-- an order weighs no more than the command that puts it, by a weight of each
pub record IsWeighed (w : Order → ℕ) (c : Command → ℕ) : Type 0 where
  pub send : (host port to dport : ℕ) (payload : List ℕ) (slot sport : ℕ) → w (order.Send slot sport dport payload) ≤ c (script.Send host port to dport payload)
  pub cancel : (host port to dport slot : ℕ) → w (order.Cancel slot dport) ≤ c (script.Cancel host port to dport)
  pub close : (host port slot : ℕ) → w (order.CloseSocket slot) ≤ c (script.Close host port)
  pub cut : (host to : ℕ) → w order.Cut ≤ c (script.Cut host to)

-- what a host's own commands weigh
abbrev pub own_weight : (Command → ℕ) → (host : ℕ) → List Placed → ℕ
own_weight c host commands = weight_of c (filter (is_own host) commands)

module _ (w : Order → ℕ) (place : ℕ) where
  -- these slots have put at most so many orders there, all together
  abbrev pub HaveAsked : (n : ℕ) → List Place → Type 0
  HaveAsked n [] = Unit {0}
  HaveAsked n (p ∷ places) = (m k : ℕ) × HasAsked w place m (holding_of p).routes × HaveAsked k places × (m + k ≤ n)

  weaker : (n m : ℕ) (places : List Place) → n ≤ m → HaveAsked n places → HaveAsked m places
  weaker n m [] less h = tt
  weaker n m (p ∷ places) less h = let few = h.4 in (h.0, h.1, h.2, h.3, omega (arith, few, less))

module _ (w : Order → ℕ) (c : Command → ℕ) (weighed : IsWeighed w c) (place : ℕ) where
  -- one slot put at most so many more
  slot_keeps : (k n : ℕ) (old : List Place) (slot : ℕ) (p q : Place) → slice_get old slot ≡ Some p → Keeps w place k (holding_of p) (holding_of q) →
      HaveAsked w place n old → HaveAsked w place (n + k) (set old slot q)
  slot_keeps k n [] slot p q at keeps h = tt
  slot_keeps k n (x ∷ old) zero p q at keeps h =
      let is : x ≡ p = same_Some x p at in
      let few = h.4 in
      let first : HasAsked w place (h.0 + k) (holding_of q).routes =
      keeps h.0 (subst (λ (y : Place). HasAsked w place h.0 (holding_of y).routes) is h.2) in
      (h.0 + k, h.1, first, h.3, omega (arith, few))
  slot_keeps k n (x ∷ old) (suc slot) p q at keeps h =
      let few = h.4 in
      (h.0, h.1 + k, h.2, slot_keeps k h.1 old slot p q at keeps h.3, omega (arith, few))

  stays : (k n : ℕ) (old new : List Place) → new ≡ old → HaveAsked w place n old → HaveAsked w place (n + k) new
  stays k n old new same h = subst (λ (l : List Place). HaveAsked w place (n + k) l) (sym same) (weaker w place n (n + k) old (omega arith) h)

  binds_next : (Fits : Holding ReaderView → Open ReaderView → Type 0) (k n : ℕ) (old new : List Place) →
      ((v : Holding ReaderView) (o : Open ReaderView) → Fits v o → o.own.routes ≡ v.routes) → BindsNext Fits old new → HaveAsked w place n old → HaveAsked w place (n + k) new
  binds_next Fits k n old new same is h =
      subst (λ (l : List Place). HaveAsked w place (n + k) l) (sym is.5)
      (slot_keeps k n old is.0 (Vacant is.1) (Bound is.2 []) is.3.0 (keeps_same w place k is.1 is.2.own (same is.1 is.2 is.4)) h)

  at_port : (Rel : Open ReaderView → List Datagram → Place → Type 0) (k n port : ℕ) (old new : List Place) →
      ((o : Open ReaderView) (got : List Datagram) (p : Place) → Rel o got p → Keeps w place k o.own (holding_of p)) → AtPort port Rel old new →
      HaveAsked w place n old → HaveAsked w place (n + k) new
  at_port Rel k n port old new keeps (inl is) h =
      subst (λ (l : List Place). HaveAsked w place (n + k) l) (sym is.5.2)
      (slot_keeps k n old is.0 (Bound is.1 is.2) is.5.0 is.3 (keeps is.1 is.2 is.5.0 is.5.1) h)
  at_port Rel k n port old new keeps (inr none) h = stays k n old new none.1 h

  holds : (p : Place) (k : Holding ReaderView) → holding_of (with_holding p k) ≡ k
  holds (Vacant v) k = refl
  holds (Bound o got) k = refl
  holds (Ended port v got) k = refl
  holds (Spare v) k = refl

  -- a command puts at most its own weight
  done : (n : ℕ) (command : Command) (old new : List Place) → IsDone command old new → HaveAsked w place n old → HaveAsked w place (n + c command) new
  done n (script.Bind host port sndbuf rcvbuf) old new (inl is) h =
      binds_next (λ v o. BindFits v port sndbuf rcvbuf (Ok o)) (c (script.Bind host port sndbuf rcvbuf)) n old new
      (λ v o fits. ap (λ (x : Open ReaderView). x.own.routes) fits.1) is.2 h
  done n (script.Bind host port sndbuf rcvbuf) old new (inr cannot) h = stays (c (script.Bind host port sndbuf rcvbuf)) n old new cannot.1 h
  done n (script.BindAny host port sndbuf rcvbuf) old new (inl is) h =
      binds_next (λ v o. BindAnyFits v port sndbuf rcvbuf (Ok o) × IsFirstFree old port o.port) (c (script.BindAny host port sndbuf rcvbuf)) n old new
      (λ v o fits. ap (λ (x : Open ReaderView). x.own.routes) fits.0.1) is h
  done n (script.BindAny host port sndbuf rcvbuf) old new (inr cannot) h = stays (c (script.BindAny host port sndbuf rcvbuf)) n old new cannot.1 h
  done n (script.Send host port to dport payload) old new is h =
      let k = c (script.Send host port to dport payload) in
      at_port (SendsFrom (address_of to) dport payload) k n port old new
      (sends_from w place k (address_of to) dport payload (weighed.send host port to dport payload)) is h
  done n (script.Recv host port) old new is h =
      at_port ReceivesNext (c (script.Recv host port)) n port old new (receives w place (c (script.Recv host port))) is h
  done n (script.Cancel host port to dport) old new is h =
      let k = c (script.Cancel host port to dport) in
      at_port (Cancels (address_of to) dport) k n port old new (cancels w place k (address_of to) dport (weighed.cancel host port to dport)) is h
  done n (script.Close host port) old new is h =
      at_port Closes (c (script.Close host port)) n port old new (closes w place (c (script.Close host port)) (weighed.close host port)) is h
  done n (script.Open host to) old new is h = stays (c (script.Open host to)) n old new is h
  done n (script.Move host to bytes) old new is h = stays (c (script.Move host to bytes)) n old new is h
  done n (script.Cut host to) old new (inl is) h =
      let k = c (script.Cut host to) in
      let keeps : Keeps w place k (holding_of is.1) (holding_of is.2) = λ m put.
      subst (λ (x : Place). HasAsked w place (m + k) (holding_of x).routes) (sym is.5.2)
      (subst (λ (x : Holding ReaderView). HasAsked w place (m + k) x.routes) (sym (holds is.1 is.5.0))
      (asks w place k (address_of to) order.Cut (holding_of is.1) is.5.0 (weighed.cut host to) is.5.1 m put)) in
      subst (λ (l : List Place). HaveAsked w place (n + k) l) (sym is.6) (slot_keeps k n old is.0 is.1 is.2 is.4 keeps h)
  done n (script.Cut host to) old new (inr none) h = stays (c (script.Cut host to)) n old new none.1 h
  done n script.Drain old new is h = stays (c script.Drain) n old new is h

  -- of a host's commands each weighs so much, and others nothing
  own_step : (host : ℕ) (placed : Placed) (commands : List Placed) → is_own host placed ≡ true →
      own_weight c host (placed ∷ commands) ≡ c placed.command + own_weight c host commands
  own_step host placed commands is =
      ap (λ (b : Bool). weight_of c (cond b (placed ∷ filter (is_own host) commands) (filter (is_own host) commands))) is

  other_step : (host : ℕ) (placed : Placed) (commands : List Placed) → own_weight c host commands ≤ own_weight c host (placed ∷ commands)
  other_step host placed commands = go (is_own host placed)
    where
      rest : List Placed
      rest = filter (is_own host) commands

      go : (own : Bool) → weight_of c rest ≤ weight_of c (cond own (placed ∷ rest) rest)
      go true = omega arith
      go false = omega arith

  is_its_own : (host : ℕ) (placed : Placed) → commander placed.command ≡ Some host → is_own host placed ≡ true
  is_its_own host placed is = ap (is_host host) is ∙ same_number host

  one_step : (n host : ℕ) (placed : Placed) (commands : List Placed) (old mid new : List Place) →
      ((k : ℕ) → HaveAsked w place k mid → HaveAsked w place (k + own_weight c host commands) new) → DoesCommand host placed old mid → HaveAsked w place n old →
      HaveAsked w place (n + own_weight c host (placed ∷ commands)) new
  one_step n host placed commands old mid new later (inl own) h =
      let more = own_step host placed commands (is_its_own host placed own.0) in
      let same : n + c placed.command + own_weight c host commands ≡ n + own_weight c host (placed ∷ commands) = omega (arith, more) in
      subst (λ (k : ℕ). HaveAsked w place k new) same (later (n + c placed.command) (done n placed.command old mid own.1 h))
  one_step n host placed commands old mid new later (inr other) h =
      let less = other_step host placed commands in
      weaker w place (n + own_weight c host commands) (n + own_weight c host (placed ∷ commands)) new (omega (arith, less))
      (later n (subst (λ (l : List Place). HaveAsked w place n l) (sym other.1) h))

  all_steps : (n host : ℕ) (commands : List Placed) (old new : List Place) → HasObeyed host commands old new → HaveAsked w place n old →
      HaveAsked w place (n + own_weight c host commands) new
  all_steps n host [] old new is h =
      subst (λ (l : List Place). HaveAsked w place (n + 0) l) (sym is) (weaker w place n (n + 0) old (omega arith) h)
  all_steps n host (placed ∷ commands) old new is h =
      one_step n host placed commands old is.0 new (λ k asked. all_steps k host commands is.0 new is.2 asked) is.1 h

  -- new slots have put none
  none_put : (routes : List (Lane ReaderView)) → All (λ (lane : Lane ReaderView). lane.pass.put ≡ []) routes → place < length routes → HasAsked w place 0 routes
  none_put routes none within =
      let lane = some_at routes place within in
      let empty : lane.0.pass.put ≡ [] =
      subst (λ (l : Lane ReaderView). l.pass.put ≡ []) (get_or_from_slice_get routes place lane.0 lane.0 lane.1) (none place lane.0 within) in
      let few : weigh w (uncut lane.0.pass.put) ≡ 0 = ap (λ l. weigh w (uncut l)) empty in
      record { lane = lane.0; at = lane.1; few = omega (arith, few) }

  all_none : (places : List Place) → ((slot : ℕ) (p : Place) → slice_get places slot ≡ Some p → HasAsked w place 0 (holding_of p).routes) → HaveAsked w place 0 places
  all_none [] each = tt
  all_none (p ∷ places) each = (0, 0, each 0 p refl, all_none places (λ slot q at. each (suc slot) q at), omega arith)

  new_slots : (hosts host : ℕ) (first : List Place) → AreNewPlaces hosts host first → suc place < hosts → HaveAsked w place 0 first
  new_slots hosts host first new within =
      all_none first (λ slot p at.
      let is = new slot p at in
      let routes = is.holding.routes in
      let count : length routes ≡ hosts - 1 =
      sym (length-map routes (λ (l : Lane ReaderView). l.peer))
      ∙ (ap length is.routes
      ∙ (length-map (others hosts host) address_of ∙ (length-map (range_with_len 0 (hosts - 1)) (peer_at host) ∙ length-range_with_len 0 (hosts - 1)))) in
      subst (λ (x : Place). HasAsked w place 0 (holding_of x).routes) (sym is.vacant)
      (none_put routes is.put (omega (arith, count, within))))

  -- what a host's slots have put there weighs no more than its own commands
  pub asked_of_done : (hosts host : ℕ) (commands : List Placed) (last : List Place) → HasDone hosts host commands last → suc place < hosts →
      HaveAsked w place (own_weight c host commands) last
  asked_of_done hosts host commands last did within =
      let same : 0 + own_weight c host commands ≡ own_weight c host commands = omega arith in
      subst (λ (k : ℕ). HaveAsked w place k last) same
      (all_steps 0 host commands did.first last did.obeyed (new_slots hosts host did.first did.new within))
