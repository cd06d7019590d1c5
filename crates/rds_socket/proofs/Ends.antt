-- How a socket begins and ends.
use Rattle.std.proofs.Common.{◌≡◌, ◌≤◌, ◌<◌, ℕ, List, [], ◌∷◌, length, Err, Option, Some, None, All, refl, sym, ap, subst, ◌∙◌, arith}
use Rattle.rds_bindtab.specs.Seats as seats
use Rattle.rds_bindtab.specs.declared.view.View as port_view
use Rattle.rds_meter.specs.declared.view.View.{View}
use Rattle.rds_meter.specs.Seats.{after_store}
use Rattle.rds_socket_parts.specs.Ports.{HasClaimedOnly, port_after, after_claims, IsTaken}
use Rattle.rds_socket_parts.specs.Words.{Purse, purse_with, IsQuietSeat, after_clearing}
use Rattle.rds_socket_parts.specs.Lanes.{Lane, ArePut, ArePutOf}
use Rattle.rds_model.specs.declared.order.Order.TheVariants as order
use Rattle.rds_bindtab.specs.Answers.{ClaimFits, after_claim}
use Rattle.rds_bindtab.specs.declared.error.BindError.{BindError}
use Rattle.rds_bindtab.specs.declared.error.BindError.TheVariants.{Reserved, InUse, NoneFree}
use Rattle.std.proofs.lemmas.List.Elements.{All-nil, All-cons}
use Rattle.rds_socket.specs.Holding.{Holding, Open, IsHolding, IsVacant, IsOpen, IsEnded, IsSendBuffer, IsReceiveBuffer, most_sent, told_of}
use Rattle.rds_socket.specs.Calls.{with_routes, IsClosing}
use Rattle.rds_socket.proofs.Claims.{claims_first, claims_many, claims_slot, claims_port, claims_released}
use Rattle.rds_socket.proofs.Quiet.{quiet_store, quiet_clear}
use Rattle.rds_socket.proofs.Kept.{held_on}

module _ {R : Type 0} where
  -- what is held after steps on both seats
  pub held_at : (old port : Option ℕ) (h : Holding R) (ports : seats.PortSeat) (v : port_view.View) (words : Purse) (w : View) (routes : List (Lane R)) (total : ℕ)
      → ports ≡ seats.knowing h.ports v → v.slot ≡ h.ports.view.slot → HasClaimedOnly port v → words ≡ purse_with h.words w → IsQuietSeat h.words.slot w → ArePutOf h.words.slot routes → total ≤ most_sent
      → IsHolding old h → IsHolding port (record { ports = ports; words = words; inbox = h.inbox; routes = routes; total = total })
  held_at old port h ports v words w routes total at slot claimed is quiet orders most k =
      subst (λ (q : seats.PortSeat). IsHolding port (record { ports = q; words = words; inbox = h.inbox; routes = routes; total = total })) (sym at)
      (subst (λ (p : Purse). IsHolding port (record { ports = seats.knowing h.ports v; words = p; inbox = h.inbox; routes = routes; total = total })) (sym is)
      (record { slot = slot ∙ k.slot; claimed = claimed; quiet = quiet; orders = orders; total = most }))

  module _ (h : Holding R) (vacant : IsVacant h) (rcvbuf : ℕ) (words : Purse) (set : words ≡ purse_with h.words (after_store h.words.seat.view h.words.slot rcvbuf)) where
    quiet : IsQuietSeat h.words.slot (after_store h.words.seat.view h.words.slot rcvbuf)
    quiet = quiet_store h.words.slot h.words.seat.view h.words.slot rcvbuf vacant.held.quiet

    abbrev holding : seats.PortSeat → Holding R
    holding ports = record { ports = ports; words = words; inbox = h.inbox; routes = h.routes; total = h.total }

    -- the claim of the port found 0
    pub bound_open : (p port sndbuf : ℕ) (taken : List ℕ) (ports : seats.PortSeat) → All IsTaken taken → ports ≡ seats.knowing h.ports (seats.after_exchange (after_claims h.ports.view p 0 taken) port 0)
        → IsSendBuffer sndbuf → IsReceiveBuffer rcvbuf → IsOpen (record { port = port; sndbuf = sndbuf; rcvbuf = rcvbuf; told = None; own = holding ports })
    bound_open p port sndbuf taken ports all at snd rcv =
        let before : port_view.View = after_claims h.ports.view p 0 taken in
        let v : port_view.View = seats.after_exchange before port 0 in
        record {
          port = ap (λ (q : seats.PortSeat). q.view.port) at;
          held = held_at None (Some port) h ports v words _ h.routes h.total at (claims_slot h.ports.view p 0 taken) (claims_first before port 0 (claims_many h.ports.view p 0 taken all vacant.held.claimed)) set quiet vacant.held.orders vacant.held.total vacant.held;
          sndbuf = snd;
          rcvbuf = rcv;
          told = omega arith;
        }

    -- each claim found another word
    pub still_vacant : (p : ℕ) (taken : List ℕ) (ports : seats.PortSeat) → All IsTaken taken → ports ≡ seats.knowing h.ports (after_claims h.ports.view p 0 taken) → IsVacant (holding ports)
    still_vacant p taken ports all at =
        let v : port_view.View = after_claims h.ports.view p 0 taken in
        record {
          port = ap (λ (q : seats.PortSeat). q.view.port) at ∙ claims_port h.ports.view p 0 taken all vacant.port;
          held = held_at None None h ports v words _ h.routes h.total at (claims_slot h.ports.view p 0 taken) (claims_many h.ports.view p 0 taken all vacant.held.claimed) set quiet vacant.held.orders vacant.held.total vacant.held;
        }

    -- one claim was refused
    pub refused_vacant : (port : ℕ) (e : BindError) (ports : seats.PortSeat) → port < 65536 → ClaimFits port (Err e) → ports ≡ seats.knowing h.ports (after_claim h.ports.view port (Err e)) → IsVacant (holding ports)
    refused_vacant port (Reserved named) ports small fits at = still_vacant port [] ports (All-nil IsTaken) at
    refused_vacant port (InUse word) ports small fits at =
        let low = fits.0 in
        let one : port ≡ port_after port 0 = omega arith in
        still_vacant port (word ∷ []) ports (All-cons IsTaken word [] fits.1 (All-nil IsTaken)) (at ∙ ap (λ q. seats.knowing h.ports (seats.after_exchange h.ports.view q word)) one)
    refused_vacant port NoneFree ports small fits at = absurd fits

  -- some peers were told
  pub closing_open : (o : Open R) (upto : ℕ) (routes : List (Lane R)) → upto ≤ length o.own.routes → length routes ≡ length o.own.routes → ArePutOf o.own.words.slot routes → IsOpen o
      → IsOpen (record { port = o.port; sndbuf = o.sndbuf; rcvbuf = o.rcvbuf; told = Some upto; own = with_routes o.own routes })
  closing_open o upto routes within same orders k = record {
    port = k.port;
    held = held_on (Some o.port) o.own o.own.words o.own.words.seat.view o.own.inbox routes o.own.total refl k.held.quiet orders k.held.total k.held;
    sndbuf = k.sndbuf;
    rcvbuf = k.rcvbuf;
    told = omega arith;
  }

  -- all were told, and the port was released
  pub closed_ended : (o : Open R) (ports : seats.PortSeat) (words : Purse) (routes : List (Lane R)) (change : ℕ) → ports ≡ seats.knowing o.own.ports (seats.after_release o.own.ports.view)
      → words ≡ purse_with o.own.words (after_clearing o.own.words.seat.view o.port change) → ArePutOf o.own.words.slot routes → IsOpen o
      → IsEnded (record { ports = ports; words = words; inbox = o.own.inbox; routes = routes; total = o.own.total })
  closed_ended o ports words routes change at is orders k = record {
    port = Some o.port;
    held = held_at (Some o.port) (Some o.port) o.own ports (seats.after_release o.own.ports.view) words (after_clearing o.own.words.seat.view o.port change) routes o.own.total at refl
        (claims_released o.own.ports.view (Some o.port) k.held.claimed) is (quiet_clear o.own.words.slot o.own.words.seat.view o.port change k.held.quiet) orders k.held.total k.held;
  }

  pub closing_is : (v z : Open R) (from slot upto : ℕ) (routes : List (Lane R)) → v ≡ z → from ≡ told_of v → slot ≡ v.own.words.slot → (from ≤ upto) × (upto < length v.own.routes) × ArePut from upto (order.CloseSocket slot) v.own.routes routes
      → IsClosing z (record { port = v.port; sndbuf = v.sndbuf; rcvbuf = v.rcvbuf; told = Some upto; own = with_routes v.own routes })
  closing_is v z from slot upto routes view_is began mine told =
      let now : Open R = record { port = v.port; sndbuf = v.sndbuf; rcvbuf = v.rcvbuf; told = Some upto; own = with_routes v.own routes } in
      let put : ArePut (told_of v) upto (order.CloseSocket v.own.words.slot) v.own.routes routes =
      subst (λ s. ArePut (told_of v) upto (order.CloseSocket s) v.own.routes routes) mine (subst (λ n. ArePut n upto (order.CloseSocket slot) v.own.routes routes) began told.2) in
      subst (λ (o : Open R). IsClosing o now) view_is (upto, told.1, (subst (λ n. n ≤ upto) began told.0, put), refl)
