-- What a host's caller puts on its routes is no more than what the host's own commands send.
use Rattle.std.proofs.Common.{◌≡◌, inl, inr, ℕ, suc, ◌+◌, ◌≤◌, ◌&&◌, nat_le, nat_lt, Bool, true, false, cond, Some, List, [], ◌∷◌, ◌++◌, length, slice_get, refl, ap, ◌∙◌, arith}
use Rattle.std.specs.Prelude.{slice_set, sum_by}
use Rattle.std.proofs.lemmas.Bool.{eq-eqb}
use Rattle.std.proofs.lemmas.List.Sums.{sum_by-cons, sum_by-set}
use Rattle.std.proofs.lemmas.Option.{get_or_from_slice_get, same_Some, slice_get_within}
use Rattle.rds_model.specs.declared.order.Datagram.{Datagram}
use Rattle.rds_model.specs.declared.order.Order.{Order}
use Rattle.rds_model.specs.declared.order.Order.TheVariants as order
use Rattle.rds_fmap.specs.Readers.{IsLook, ReaderView}
use Rattle.rds_fmap.specs.declared.seen.Seen.{Seen}
use Rattle.rds_script.specs.declared.script.Command.{Command}
use Rattle.rds_script.specs.declared.script.Command.TheVariants as script
use Rattle.rds_script.specs.declared.script.Placed.{Placed}
use Rattle.rds_socket_parts.specs.Lanes.{ArePut, IsLookTo, IsPutTo, Lane, with_order, with_reader}
use Rattle.rds_socket.specs.declared.error.SendError.TheVariants as refused
use Rattle.rds_socket.specs.Holding.{Holding, Open}
use Rattle.rds_socket.specs.Sends.{order_of}
use Rattle.rds_socket.specs.Calls.{with_own}
use Rattle.rds_run_callers.specs.Commands.{commander}
use Rattle.rds_run_callers.specs.Doing.{AtPort, BindsNext, IsDone}
use Rattle.rds_run_callers.specs.Places.{Bound, Ended, Place, Spare, Vacant, holding_of, with_holding}
use Rattle.rds_run_callers.specs.Tenants.{Asks, Cancels, Closes, ReceivesNext, SendsOrNot}
use Rattle.rds_run_hosts.specs.Obeyed.{HasObeyed, is_host}
use Rattle.rds_run_laws.specs.Put.{own_sum, places_sum, routes_sum}
use Rattle.rds_run_laws.specs.Sent.{sent_by}
use Rattle.rds_run_laws.specs.Weights.{Weight, orders_sum}

-- a sum with one term changed
pub set_sum : {X : Type 0} (f : X → ℕ) (xs : List X) (i : ℕ) (x y : X) → slice_get xs i ≡ Some x → sum_by f (slice_set xs i y) + f x ≡ sum_by f xs + f y
set_sum f xs i x y at =
    let changed = sum_by-set f xs i y x (slice_get_within xs i x at) in
    let here = ap f (get_or_from_slice_get xs i x x at) in
    omega (arith, changed, here)

module _ (w : Weight) where
  abbrev lane_sum : Lane ReaderView → ℕ
  lane_sum lane = orders_sum w lane.pass.put

  abbrev place_sum : Place → ℕ
  place_sum p = routes_sum w (holding_of p).routes

  pub put_more : (xs : List Order) (item : Order) → orders_sum w (xs ++ item ∷ []) ≡ orders_sum w xs + orders_sum w (item ∷ [])
  put_more [] item = omega arith
  put_more (order.Send s f t p ∷ xs) item = let ih = put_more xs item in omega (arith, ih)
  put_more (order.Cancel s t ∷ xs) item = put_more xs item
  put_more (order.CloseSocket s ∷ xs) item = put_more xs item
  put_more (order.Cut ∷ xs) item = put_more xs item

  -- one step of a socket or a slot, which puts orders that send no more than this
  abbrev PutsAtMost : ℕ → (old new : List (Lane ReaderView)) → Type 0
  PutsAtMost v old new = routes_sum w new ≤ routes_sum w old + v

  put_to : (peer : ℕ) (item : Order) (old new : List (Lane ReaderView)) → IsPutTo peer item old new → routes_sum w new ≡ routes_sum w old + orders_sum w (item ∷ [])
  put_to peer item old new (place, leads, (lane, at, is)) =
      let changed = set_sum lane_sum old place lane (with_order lane item) at in
      let more = put_more lane.pass.put item in
      let same = ap (routes_sum w) is in
      omega (arith, changed, more, same)

  look_to : (peer port : ℕ) (seen : Seen) (old new : List (Lane ReaderView)) → IsLookTo IsLook peer port seen old new → routes_sum w new ≡ routes_sum w old
  look_to peer port seen old new (place, leads, (lane, reader, at, looks, is)) =
      let changed = set_sum lane_sum old place lane (with_reader lane reader) at in
      let same = ap (routes_sum w) is in
      omega (arith, changed, same)

  same_routes : (old new : List (Lane ReaderView)) → length new ≡ length old →
      ((i : ℕ) (lane : Lane ReaderView) → slice_get old i ≡ Some lane → (l : Lane ReaderView) × (slice_get new i ≡ Some l) × (lane_sum l ≡ lane_sum lane)) →
      routes_sum w new ≡ routes_sum w old
  same_routes [] [] count each = refl
  same_routes [] (y ∷ ys) count each = absurd (omega (arith, count))
  same_routes (x ∷ xs) [] count each = absurd (omega (arith, count))
  same_routes (x ∷ xs) (y ∷ ys) count each =
      let here = each 0 x refl in
      let first : lane_sum y ≡ lane_sum x = ap lane_sum (same_Some y here.0 here.1) ∙ here.2 in
      let rest = same_routes xs ys (omega (arith, count)) (λ i lane at. each (suc i) lane at) in
      let left = sum_by-cons lane_sum y ys in
      let right = sum_by-cons lane_sum x xs in
      omega (arith, first, rest, left, right)

  told_close : (from upto slot : ℕ) (old new : List (Lane ReaderView)) → ArePut from upto (order.CloseSocket slot) old new → routes_sum w new ≡ routes_sum w old
  told_close from upto slot old new (count, each) = same_routes old new count (λ i lane at. there i lane (nat_le from i && nat_lt i upto) (each i lane at))
    where
      there : (i : ℕ) (lane : Lane ReaderView) (b : Bool) → slice_get new i ≡ Some (cond b (with_order lane (order.CloseSocket slot)) lane) →
          (l : Lane ReaderView) × (slice_get new i ≡ Some l) × (lane_sum l ≡ lane_sum lane)
      there i lane true at = (with_order lane (order.CloseSocket slot), at, (let more = put_more lane.pass.put (order.CloseSocket slot) in omega (arith, more)))
      there i lane false at = (lane, at, refl)

  -- what a send puts
  sends : (peer dport : ℕ) (payload : List ℕ) (o q : Open ReaderView) → SendsOrNot peer dport payload o q → PutsAtMost (w o.port dport payload) o.own.routes q.own.routes
  sends peer dport payload o q (inl (routes, freed, clear, fits, put, is)) =
      let looked = look_to peer dport (record { version = clear.version; set = false }) o.own.routes routes clear.look in
      let more = put_to peer (order_of o dport payload) routes q.own.routes put in
      omega (arith, looked, more)
  sends peer dport payload o q (inr (refused.TooLong len limit, other, fits)) =
      let same = ap (λ (x : Open ReaderView). routes_sum w x.own.routes) fits.3 in omega (arith, same)
  sends peer dport payload o q (inr (refused.NoRoute named, other, fits)) =
      let same = ap (λ (x : Open ReaderView). routes_sum w x.own.routes) fits.3 in omega (arith, same)
  sends peer dport payload o q (inr (refused.Congested port version, other, fits)) =
      let same = look_to peer dport (record { version = version; set = true }) o.own.routes q.own.routes fits.2 in omega (arith, same)
  sends peer dport payload o q (inr (refused.SendFull queued len limit, other, fits)) =
      let same = look_to peer dport (record { version = fits.0.version; set = false }) o.own.routes q.own.routes fits.0.look in omega (arith, same)
  sends peer dport payload o q (inr (refused.Memory, other, fits)) = absurd (other refl)

  asks : (peer : ℕ) (item : Order) (old new : Holding ReaderView) → orders_sum w (item ∷ []) ≡ 0 → Asks peer item old new → PutsAtMost 0 old.routes new.routes
  asks peer item old new none (inl (put, is)) = let more = put_to peer item old.routes new.routes put in omega (arith, more, none)
  asks peer item old new none (inr (none_to, is)) = let same = ap (λ (h : Holding ReaderView). routes_sum w h.routes) is in omega (arith, same)

  -- a slot is another now, or nothing changed
  at_port : (v port : ℕ) (Rel : Open ReaderView → List Datagram → Place → Type 0) →
      ((o : Open ReaderView) (got : List Datagram) (p : Place) → o.port ≡ port → Rel o got p → PutsAtMost v o.own.routes (holding_of p).routes) →
      (old new : List Place) → AtPort port Rel old new → places_sum w new ≤ places_sum w old + v
  at_port v port Rel few old new (inl (slot, o, got, bound, held, (p, rel, is))) =
      let changed = set_sum place_sum old slot (Bound o got) p bound in
      let most = few o got p held rel in
      let same = ap (places_sum w) is in
      omega (arith, changed, most, same)
  at_port v port Rel few old new (inr (free, is)) = let same = ap (places_sum w) is in omega (arith, same)

  binds_next : (Fits : Holding ReaderView → Open ReaderView → Type 0) → ((h : Holding ReaderView) (o : Open ReaderView) → Fits h o → o.own.routes ≡ h.routes) →
      (old new : List Place) → BindsNext Fits old new → places_sum w new ≤ places_sum w old
  binds_next Fits keeps old new (slot, h, o, next, fits, is) =
      let changed = set_sum place_sum old slot (Vacant h) (Bound o []) next.0 in
      let routes = ap (routes_sum w) (keeps h o fits) in
      let same = ap (places_sum w) is in
      omega (arith, changed, routes, same)

  pub held_by : (p : Place) (h : Holding ReaderView) → holding_of (with_holding p h) ≡ h
  held_by (Vacant k) h = refl
  held_by (Bound o got) h = refl
  held_by (Ended port k got) h = refl
  held_by (Spare k) h = refl

  same_place : (p q : Place) → p ≡ q → place_sum p ≡ place_sum q
  same_place p q is = ap place_sum is

  unchanged : (old new : List Place) (v : ℕ) → new ≡ old → places_sum w new ≤ places_sum w old + v
  unchanged old new v is = let same = ap (places_sum w) is in omega (arith, same)

  does : (c : Command) (old new : List Place) → IsDone c old new → places_sum w new ≤ places_sum w old + sent_by w c
  does (script.Bind host port sndbuf rcvbuf) old new (inl (least, free, next)) =
      let most = binds_next _ (λ h o fits. ap (λ (x : Open ReaderView). x.own.routes) fits.1) old new next in omega (arith, most)
  does (script.Bind host port sndbuf rcvbuf) old new (inr (cannot, is)) = unchanged old new 0 is
  does (script.BindAny host port sndbuf rcvbuf) old new (inl next) =
      let most = binds_next _ (λ h o fits. ap (λ (x : Open ReaderView). x.own.routes) fits.0.1) old new next in omega (arith, most)
  does (script.BindAny host port sndbuf rcvbuf) old new (inr (none, is)) = unchanged old new 0 is
  does (script.Send host port to dport payload) old new done =
      at_port (w port dport payload) port _ (λ o got p called (q, sent, is).
      let same = same_place p (Bound q got) is in
      let most = sends _ dport payload o q sent in
      let named = ap (λ (n : ℕ). w n dport payload) called in
      omega (arith, same, most, named))
      old new done
  does (script.Recv host port) old new done = at_port 0 port ReceivesNext (λ o got p called. receives o got p) old new done
    where
      receives : (o : Open ReaderView) (got : List Datagram) (p : Place) → ReceivesNext o got p → PutsAtMost 0 o.own.routes (holding_of p).routes
      receives o got p (inl (item, q, (number, words, receipt, left), is)) =
          let first = same_place p (Bound q (got ++ item ∷ [])) is in
          let second = ap (λ (x : Open ReaderView). routes_sum w x.own.routes) left in
          omega (arith, first, second)
      receives o got p (inr (all, is)) = let same = same_place p (Bound o got) is in omega (arith, same)
  does (script.Cancel host port to dport) old new done = at_port 0 port _ (λ o got p called. cancels o got p) old new done
    where
      cancels : {peer : ℕ} (o : Open ReaderView) (got : List Datagram) (p : Place) → Cancels peer dport o got p → PutsAtMost 0 o.own.routes (holding_of p).routes
      cancels {peer} o got p (h, asked, is) =
          let same = same_place p (Bound (with_own o h) got) is in
          let most = asks peer (order.Cancel o.own.words.slot dport) o.own h refl asked in
          omega (arith, same, most)
  does (script.Close host port) old new done = at_port 0 port Closes (λ o got p called. closes o got p) old new done
    where
      closes : (o : Open ReaderView) (got : List Datagram) (p : Place) → Closes o got p → PutsAtMost 0 o.own.routes (holding_of p).routes
      closes o got p (h, closed, is) =
          let same = same_place p (Ended o.port h got) is in
          let most = told_close _ _ o.own.words.slot o.own.routes h.routes closed.0.1 in
          omega (arith, same, most)
  does (script.Open host to) old new is = unchanged old new 0 is
  does (script.Move host to bytes) old new is = unchanged old new 0 is
  does (script.Cut host to) old new (inl (slot, p, q, last, at, (h, asked, changes), is)) =
      let changed = set_sum place_sum old slot p q at in
      let put = asks _ order.Cut (holding_of p) h refl asked in
      let held = same_place q (with_holding p h) changes in
      let here = ap (λ (k : Holding ReaderView). routes_sum w k.routes) (held_by p h) in
      let same = ap (places_sum w) is in
      omega (arith, changed, put, held, here, same)
  does (script.Cut host to) old new (inr (none, is)) = unchanged old new 0 is
  does script.Drain old new is = unchanged old new 0 is

  pub obeyed : (host : ℕ) (commands : List Placed) (first last : List Place) → HasObeyed host commands first last →
      places_sum w last ≤ places_sum w first + own_sum w host commands
  obeyed host [] first last is = unchanged first last 0 is
  obeyed host (placed ∷ commands) first last (middle, inl (own, done), rest) =
      let here = does placed.command first middle done in
      let later = obeyed host commands middle last rest in
      let is : is_host host (commander placed.command) ≡ true = ap (is_host host) own ∙ eq-eqb host host refl in
      let counts : cond (is_host host (commander placed.command)) (sent_by w placed.command) 0 ≡ sent_by w placed.command = ap (λ (b : Bool). cond b (sent_by w placed.command) 0) is in
      omega (arith, here, later, counts)
  obeyed host (placed ∷ commands) first last (middle, inr (other, is), rest) =
      let here = unchanged first middle 0 is in
      let later = obeyed host commands middle last rest in
      omega (arith, here, later)
