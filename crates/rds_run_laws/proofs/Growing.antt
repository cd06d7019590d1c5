-- What a caller that closes nothing keeps of its slots: the peers of their routes, what their readers found, and each socket, with its port and its
-- send buffer.
use Rattle.std.proofs.Common.{◌≡◌, inl, inr, ℕ, ◌≤◌, List, [], ◌∷◌, Some, length, slice_get, slice_set, refl, sym, ap, subst, ◌∙◌}
use Rattle.std.specs.Prelude.{Contains}
use Rattle.std.proofs.lemmas.Bool.{cases_eq}
use Rattle.std.proofs.lemmas.List.{length-set}
use Rattle.std.proofs.lemmas.List.Elements.{Contains-append_left}
use Rattle.std.proofs.lemmas.Option.{same_Some, slice_get_within}
use Rattle.rds_model.specs.declared.order.Datagram.{Datagram}
use Rattle.rds_model.specs.declared.order.Order.{Order}
use Rattle.rds_fmap.specs.Readers.{IsLook, ReaderView}
use Rattle.rds_fmap.specs.declared.seen.Seen.{Seen}
use Rattle.rds_fmap.specs.declared.words.view.Look.{Look}
use Rattle.rds_socket_parts.specs.Lanes.{IsLaneAt, IsLookTo, IsPutTo, Lane, peers_of, with_order, with_reader}
use Rattle.rds_socket_parts.specs.PlaceLaws.{map_same}
use Rattle.rds_socket_parts.specs.Words.{Purse}
use Rattle.rds_socket.specs.declared.error.SendError.{SendError}
use Rattle.rds_socket.specs.declared.error.SendError.TheVariants.{TooLong, NoRoute, Congested, SendFull, Memory}
use Rattle.rds_socket.specs.Holding.{Holding, Open}
use Rattle.rds_socket.specs.Sends.{RefusalFits}
use Rattle.rds_text.specs.Hosts.{address_of}
use Rattle.rds_script.specs.declared.script.Command.{Command}
use Rattle.rds_script.specs.declared.script.Command.TheVariants as script
use Rattle.rds_script.specs.declared.script.Placed.{Placed}
use Rattle.rds_run_callers.specs.Doing.{AtPort, CutsByLast, IsDone}
use Rattle.rds_run_callers.specs.Places.{Bound, Ended, Place, Spare, Vacant, holding_of, with_holding}
use Rattle.rds_run_callers.specs.Tenants.{Asks, ReceivesNext, SendsFrom, SendsOrNot}
use Rattle.rds_run_hosts.specs.Obeyed.{DoesCommand, HasObeyed}
use Rattle.rds_run_threads.proofs.At.{at_set, beside_set, stood_at}

-- each look that the one reader made the other made too
abbrev SeesAll : Lane ReaderView → Lane ReaderView → Type 0
SeesAll old new = (look : Look) → Contains old.reader.found look → Contains new.reader.found look

-- the same routes, whose readers may have looked more
pub record RoutesGrow (old new : List (Lane ReaderView)) : Type 0 where
  pub peers : peers_of new ≡ peers_of old
  pub looks : (i : ℕ) (lane : Lane ReaderView) → IsLaneAt old i lane → (now : Lane ReaderView) × IsLaneAt new i now × SeesAll lane now

routes_same : (old new : List (Lane ReaderView)) → new ≡ old → RoutesGrow old new
routes_same old new is = subst (RoutesGrow old) (sym is) (record { peers = refl; looks = λ i lane at. (lane, at, λ look found. found) })

routes_then : (a b c : List (Lane ReaderView)) → RoutesGrow a b → RoutesGrow b c → RoutesGrow a c
routes_then a b c first second = record {
  peers = second.peers ∙ first.peers;
  looks = λ i lane at.
      let here = first.looks i lane at in
      let then = second.looks i here.0 here.1 in
      (then.0, then.1, λ look found. then.2 look (here.2 look found));
}

one_route : (old : List (Lane ReaderView)) (place : ℕ) (was now : Lane ReaderView) → IsLaneAt old place was → now.peer ≡ was.peer → SeesAll was now →
    RoutesGrow old (slice_set old place now)
one_route old place was now at same more = record {
  peers = map_same (λ (l : Lane ReaderView). l.peer) old place was now at same;
  looks = λ i lane at_lane.
      elim (cases_eq i place) [
        | inl here ↦
            let is : was ≡ lane = same_Some was lane (sym at ∙ (ap (slice_get old) (sym here) ∙ at_lane)) in (
              now,
              ap (slice_get (slice_set old place now)) here ∙ at_set old place now (slice_get_within old place was at),
              subst (λ (l : Lane ReaderView). SeesAll l now) is more,
            )
        | inr apart ↦ (lane, beside_set old place i now apart ∙ at_lane, λ look found. found)
      ];
}

put_grows : (peer : ℕ) (item : Order) (old new : List (Lane ReaderView)) → IsPutTo peer item old new → RoutesGrow old new
put_grows peer item old new (place, leads, (lane, at, is)) =
    subst (RoutesGrow old) (sym is) (one_route old place lane (with_order lane item) at refl (λ look found. found))

pub look_grows : (peer port : ℕ) (seen : Seen) (old new : List (Lane ReaderView)) → IsLookTo IsLook peer port seen old new → RoutesGrow old new
look_grows peer port seen old new (place, leads, (lane, reader, at, (number, more, says), is)) =
    subst (RoutesGrow old) (sym is) (one_route old place lane (with_reader lane reader) at refl (λ look found.
    subst (λ (l : List Look). Contains l look) (sym (ap (λ (r : ReaderView). r.found) more)) (Contains-append_left lane.reader.found (_ ∷ []) look found)))

module _ (bytes : ℕ) where
  -- a socket's send buffer has room for so much
  abbrev pub HasRoom : Place → Type 0
  HasRoom (Vacant h) = Unit {0}
  HasRoom (Bound o got) = bytes ≤ o.sndbuf
  HasRoom (Ended port h got) = Unit {0}
  HasRoom (Spare h) = Unit {0}

  -- a socket has the port
  abbrev pub HasPort : ℕ → Place → Type 0
  HasPort port (Vacant h) = ⊥
  HasPort port (Bound o got) = o.port ≡ port
  HasPort port (Ended own h got) = ⊥
  HasPort port (Spare h) = ⊥

  -- no socket that had the slot was closed
  abbrev pub IsLive : Place → Type 0
  IsLive (Vacant h) = Unit {0}
  IsLive (Bound o got) = Unit {0}
  IsLive (Ended own h got) = ⊥
  IsLive (Spare h) = Unit {0}

  pub record Grows (old new : Place) : Type 0 where
    pub routes : RoutesGrow (holding_of old).routes (holding_of new).routes
    pub room : HasRoom old → HasRoom new
    pub held : (port : ℕ) → HasPort port old → HasPort port new
    pub slot : (holding_of new).words.slot ≡ (holding_of old).words.slot
    pub live : IsLive old → IsLive new

  grows_same : (p : Place) → Grows p p
  grows_same p = record { routes = routes_same (holding_of p).routes (holding_of p).routes refl; room = λ has. has; held = λ port has. has; slot = refl; live = λ is. is }

  grows_then : (p q r : Place) → Grows p q → Grows q r → Grows p r
  grows_then p q r first second = record {
    routes = routes_then (holding_of p).routes (holding_of q).routes (holding_of r).routes first.routes second.routes;
    room = λ has. second.room (first.room has);
    held = λ port has. second.held port (first.held port has);
    slot = second.slot ∙ first.slot;
    live = λ is. second.live (first.live is);
  }

  -- so it is of each slot
  pub record AllGrow (old new : List Place) : Type 0 where
    pub count : length new ≡ length old
    pub each : (slot : ℕ) (p q : Place) → slice_get old slot ≡ Some p → slice_get new slot ≡ Some q → Grows p q

  all_same : (old new : List Place) → new ≡ old → AllGrow old new
  all_same old new is = record {
    count = ap (λ (l : List Place). length l) is;
    each = λ slot p q at at'.
        subst (Grows p) (same_Some p q (sym at ∙ (ap (λ (l : List Place). slice_get l slot) (sym is) ∙ at'))) (grows_same p);
  }

  pub all_then : (a b c : List Place) → AllGrow a b → AllGrow b c → AllGrow a c
  all_then a b c first second = record {
    count = second.count ∙ first.count;
    each = λ slot p r at at'.
        let q = stood_at b c slot r second.count at' in
        grows_then p q.0 r (first.each slot p q.0 at q.1) (second.each slot q.0 r q.1 at');
  }

  one_grows : (old new : List Place) (slot : ℕ) (p q : Place) → slice_get old slot ≡ Some p → Grows p q → new ≡ slice_set old slot q → AllGrow old new
  one_grows old new slot p q at grows is = record {
    count = ap (λ (l : List Place). length l) is ∙ length-set old slot q;
    each = λ other x y at_x at_y.
        let there : slice_get (slice_set old slot q) other ≡ Some y = ap (λ (l : List Place). slice_get l other) (sym is) ∙ at_y in
        elim (cases_eq other slot) [
          | inl here ↦
              let x_is : p ≡ x = same_Some p x (sym at ∙ (ap (slice_get old) (sym here) ∙ at_x)) in
              let y_is : q ≡ y = same_Some q y (sym (at_set old slot q (slice_get_within old slot p at)) ∙ (ap (slice_get (slice_set old slot q)) (sym here) ∙ there)) in
              subst (λ (r : Place). Grows r y) x_is (subst (Grows p) y_is grows)
          | inr apart ↦ subst (Grows x) (same_Some x y (sym at_x ∙ (sym (beside_set old slot other q apart) ∙ there))) (grows_same x)
        ];
  }

  -- a socket that is another now, with the same port and buffer
  kept : (o q : Open ReaderView) (got more : List Datagram) → RoutesGrow o.own.routes q.own.routes → q.port ≡ o.port → q.sndbuf ≡ o.sndbuf →
      q.own.words.slot ≡ o.own.words.slot → Grows (Bound o got) (Bound q more)
  kept o q got more routes port sndbuf slot = record {
    routes = routes;
    room = λ has. subst (λ (n : ℕ). bytes ≤ n) (sym sndbuf) has;
    held = λ n has. port ∙ has;
    slot = slot;
    live = λ is. tt;
  }

  sends : (peer dport : ℕ) (payload : List ℕ) (o q : Open ReaderView) (got : List Datagram) → SendsOrNot peer dport payload o q → Grows (Bound o got) (Bound q got)
  sends peer dport payload o q got (inl (routes, freed, clear, fits, put, is)) =
      kept o q got got
      (routes_then o.own.routes routes q.own.routes (look_grows peer dport _ o.own.routes routes clear.look) (put_grows peer _ routes q.own.routes put))
      (ap (λ (x : Open ReaderView). x.port) is) (ap (λ (x : Open ReaderView). x.sndbuf) is) (ap (λ (x : Open ReaderView). x.own.words.slot) is)
  sends peer dport payload o q got (inr (e, other, refused)) = go e refused
    where
      go : (why : SendError) → RefusalFits IsLook peer dport payload o why q → Grows (Bound o got) (Bound q got)
      go (TooLong len limit) fits = subst (λ (x : Open ReaderView). Grows (Bound o got) (Bound x got)) (sym fits.3) (grows_same (Bound o got))
      go (NoRoute named) fits = subst (λ (x : Open ReaderView). Grows (Bound o got) (Bound x got)) (sym fits.3) (grows_same (Bound o got))
      go (Congested port version) fits =
          kept o q got got (look_grows peer dport _ o.own.routes q.own.routes fits.2) (ap (λ (x : Open ReaderView). x.port) fits.3)
          (ap (λ (x : Open ReaderView). x.sndbuf) fits.3) (ap (λ (x : Open ReaderView). x.own.words.slot) fits.3)
      go (SendFull queued len limit) fits =
          kept o q got got (look_grows peer dport _ o.own.routes q.own.routes fits.0.look) (ap (λ (x : Open ReaderView). x.port) fits.1.5)
          (ap (λ (x : Open ReaderView). x.sndbuf) fits.1.5) (ap (λ (x : Open ReaderView). x.own.words.slot) fits.1.5)
      go Memory fits =
          kept o q got got (look_grows peer dport _ o.own.routes q.own.routes fits.0.look) (ap (λ (x : Open ReaderView). x.port) fits.1.2)
          (ap (λ (x : Open ReaderView). x.sndbuf) fits.1.2) (ap (λ (x : Open ReaderView). x.own.words.slot) fits.1.2)

  sends_from : (peer dport : ℕ) (payload : List ℕ) (o : Open ReaderView) (got : List Datagram) (p : Place) → SendsFrom peer dport payload o got p → Grows (Bound o got) p
  sends_from peer dport payload o got p (q, sent, is) = subst (Grows (Bound o got)) (sym is) (sends peer dport payload o q got sent)

  receives : (o : Open ReaderView) (got : List Datagram) (p : Place) → ReceivesNext o got p → Grows (Bound o got) p
  receives o got p (inl (item, q, (number, words, receipt, left), is)) =
      subst (Grows (Bound o got)) (sym is)
      (kept o q got _ (routes_same o.own.routes q.own.routes (ap (λ (x : Open ReaderView). x.own.routes) left)) (ap (λ (x : Open ReaderView). x.port) left)
      (ap (λ (x : Open ReaderView). x.sndbuf) left) (ap (λ (x : Open ReaderView). x.own.words.slot) left ∙ ap (λ (x : Purse). x.slot) receipt.4))
  receives o got p (inr (all, is)) = subst (Grows (Bound o got)) (sym is) (grows_same (Bound o got))

  asked : (peer : ℕ) (item : Order) (old new : Holding ReaderView) → Asks peer item old new → RoutesGrow old.routes new.routes
  asked peer item old new (inl (put, is)) = put_grows peer item old.routes new.routes put
  asked peer item old new (inr (none, is)) = routes_same old.routes new.routes (ap (λ (h : Holding ReaderView). h.routes) is)

  asked_slot : (peer : ℕ) (item : Order) (old new : Holding ReaderView) → Asks peer item old new → new.words.slot ≡ old.words.slot
  asked_slot peer item old new (inl (put, is)) = ap (λ (h : Holding ReaderView). h.words.slot) is
  asked_slot peer item old new (inr (none, is)) = ap (λ (h : Holding ReaderView). h.words.slot) is

  holds : (p : Place) (h : Holding ReaderView) → RoutesGrow (holding_of p).routes h.routes → h.words.slot ≡ (holding_of p).words.slot → Grows p (with_holding p h)
  holds (Vacant v) h routes slot = record { routes = routes; room = λ has. has; held = λ port has. has; slot = slot; live = λ is. is }
  holds (Bound o got) h routes slot = record { routes = routes; room = λ has. has; held = λ port has. has; slot = slot; live = λ is. is }
  holds (Ended own v got) h routes slot = record { routes = routes; room = λ has. has; held = λ port has. has; slot = slot; live = λ is. is }
  holds (Spare v) h routes slot = record { routes = routes; room = λ has. has; held = λ port has. has; slot = slot; live = λ is. is }

  at_port : (port : ℕ) (Rel : Open ReaderView → List Datagram → Place → Type 0) (old new : List Place) →
      ((o : Open ReaderView) (got : List Datagram) (p : Place) → Rel o got p → Grows (Bound o got) p) → AtPort port Rel old new → AllGrow old new
  at_port port Rel old new each (inl (slot, o, got, at, called, (p, rel, is))) = one_grows old new slot (Bound o got) p at (each o got p rel) is
  at_port port Rel old new each (inr (free, same)) = all_same old new same

  cuts : (peer : ℕ) (old new : List Place) → CutsByLast peer old new → AllGrow old new
  cuts peer old new (inl (slot, p, q, last, at, (h, asks, is), changes)) =
      one_grows old new slot p q at (subst (Grows p) (sym is) (holds p h (asked peer _ (holding_of p) h asks) (asked_slot peer _ (holding_of p) h asks))) changes
  cuts peer old new (inr (none, same)) = all_same old new same

  -- the command closes nothing, takes nothing back, and binds only with such a send buffer
  abbrev pub IsKind : Command → Type 0
  IsKind (script.Bind host port sndbuf rcvbuf) = bytes ≤ sndbuf
  IsKind (script.BindAny host port sndbuf rcvbuf) = ⊥
  IsKind (script.Send host port to dport payload) = Unit {0}
  IsKind (script.Recv host port) = Unit {0}
  IsKind (script.Cancel host port to dport) = ⊥
  IsKind (script.Close host port) = ⊥
  IsKind (script.Open host to) = Unit {0}
  IsKind (script.Move host to size) = Unit {0}
  IsKind (script.Cut host to) = Unit {0}
  IsKind script.Drain = Unit {0}

  pub done_grows : (c : Command) (old new : List Place) → IsKind c → IsDone c old new → AllGrow old new
  done_grows (script.Bind host port sndbuf rcvbuf) old new kind (inl (least, free, (slot, h, o, next, fits, is))) =
      one_grows old new slot (Vacant h) (Bound o []) next.0
      (record {
        routes = routes_same h.routes o.own.routes (ap (λ (x : Open ReaderView). x.own.routes) fits.1);
        room = λ has. subst (λ (n : ℕ). bytes ≤ n) (sym (ap (λ (x : Open ReaderView). x.sndbuf) fits.1)) kind;
        held = λ n has. absurd has;
        slot = ap (λ (x : Open ReaderView). x.own.words.slot) fits.1;
        live = λ is_live. tt;
      })
      is
  done_grows (script.Bind host port sndbuf rcvbuf) old new kind (inr (cannot, is)) = all_same old new is
  done_grows (script.BindAny host port sndbuf rcvbuf) old new kind did = absurd kind
  done_grows (script.Send host port to dport payload) old new kind did =
      at_port port (SendsFrom (address_of to) dport payload) old new (sends_from (address_of to) dport payload) did
  done_grows (script.Recv host port) old new kind did = at_port port ReceivesNext old new receives did
  done_grows (script.Cancel host port to dport) old new kind did = absurd kind
  done_grows (script.Close host port) old new kind did = absurd kind
  done_grows (script.Open host to) old new kind did = all_same old new did
  done_grows (script.Move host to size) old new kind did = all_same old new did
  done_grows (script.Cut host to) old new kind did = cuts (address_of to) old new did
  done_grows script.Drain old new kind did = all_same old new did

  pub does_grow : (host : ℕ) (placed : Placed) (old new : List Place) → IsKind placed.command → DoesCommand host placed old new → AllGrow old new
  does_grow host placed old new kind (inl own) = done_grows placed.command old new kind own.1
  does_grow host placed old new kind (inr other) = all_same old new other.1

  -- each of these commands is such
  abbrev pub AreKind : List Placed → Type 0
  AreKind [] = Unit {0}
  AreKind (placed ∷ commands) = IsKind placed.command × AreKind commands

  pub obeyed_grow : (host : ℕ) (commands : List Placed) (first last : List Place) → AreKind commands → HasObeyed host commands first last → AllGrow first last
  obeyed_grow host [] first last kind same = all_same first last same
  obeyed_grow host (placed ∷ commands) first last kind (middle, this, later) =
      all_then first middle last (does_grow host placed first middle kind.0 this) (obeyed_grow host commands middle last kind.1 later)
