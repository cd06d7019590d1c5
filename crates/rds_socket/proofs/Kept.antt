-- What the steps of a call keep of a socket.
use Rattle.std.proofs.Common.{◌≡◌, ◌≤◌, ℕ, List, length, Option, Some, None, refl, sym, ap, subst, arith}
use Rattle.rds_meter.specs.declared.view.View.{View}
use Rattle.rds_bindtab.specs.Seats as seats
use Rattle.rds_socket_parts.specs.Ports.{HasClaimedOnly}
use Rattle.rds_socket_parts.specs.Words.{Purse, purse_with, IsQuietSeat}
use Rattle.rds_socket_parts.specs.Boxes.{Box}
use Rattle.rds_socket_parts.specs.Lanes.{Lane, ArePutOf}
use Rattle.rds_socket.specs.Holding.{Holding, Open, IsHolding, IsVacant, IsOpen, IsEnded, most_sent, told_of}
use Rattle.rds_socket.specs.Calls.{with_own}

module _ {R : Type 0} where
  -- the socket's own parts after steps on its words, its mailbox and its routes
  abbrev pub moved : Holding R → Purse → Box → List (Lane R) → ℕ → Holding R
  moved h words inbox routes total = record { ports = h.ports; words = words; inbox = inbox; routes = routes; total = total }

  pub held_on : (port : Option ℕ) (h : Holding R) (words : Purse) (w : View) (inbox : Box) (routes : List (Lane R)) (total : ℕ)
      → words ≡ purse_with h.words w → IsQuietSeat h.words.slot w → ArePutOf h.words.slot routes → total ≤ most_sent → IsHolding port h → IsHolding port (moved h words inbox routes total)
  held_on port h words w inbox routes total is quiet orders most k =
      subst (λ (p : Purse). IsHolding port (moved h p inbox routes total)) (sym is) (record { slot = k.slot; claimed = k.claimed; quiet = quiet; orders = orders; total = most })

  pub open_on : (o : Open R) (words : Purse) (w : View) (inbox : Box) (routes : List (Lane R)) (total : ℕ)
      → words ≡ purse_with o.own.words w → IsQuietSeat o.own.words.slot w → ArePutOf o.own.words.slot routes → length routes ≡ length o.own.routes → total ≤ most_sent
      → IsOpen o → IsOpen (with_own o (moved o.own words inbox routes total))
  open_on o words w inbox routes total is quiet orders same most k = record {
    port = k.port;
    held = held_on (Some o.port) o.own words w inbox routes total is quiet orders most k.held;
    sndbuf = k.sndbuf;
    rcvbuf = k.rcvbuf;
    told = subst (λ n. told_of o ≤ n) (sym same) k.told;
  }

  -- steps on the routes alone
  pub open_routes : (o : Open R) (routes : List (Lane R)) → ArePutOf o.own.words.slot routes → length routes ≡ length o.own.routes → IsOpen o → IsOpen (with_own o (moved o.own o.own.words o.own.inbox routes o.own.total))
  open_routes o routes orders same k = open_on o o.own.words o.own.words.seat.view o.own.inbox routes o.own.total refl k.held.quiet orders same k.held.total k

  -- steps on the words alone
  pub open_words : (o : Open R) (words : Purse) (w : View) → words ≡ purse_with o.own.words w → IsQuietSeat o.own.words.slot w → IsOpen o → IsOpen (with_own o (moved o.own words o.own.inbox o.own.routes o.own.total))
  open_words o words w is quiet k = open_on o words w o.own.inbox o.own.routes o.own.total is quiet k.held.orders refl k.held.total k

  -- steps on the mailbox alone
  pub open_inbox : (o : Open R) (inbox : Box) → IsOpen o → IsOpen (with_own o (moved o.own o.own.words inbox o.own.routes o.own.total))
  open_inbox o inbox k = open_on o o.own.words o.own.words.seat.view inbox o.own.routes o.own.total refl k.held.quiet k.held.orders refl k.held.total k

  pub vacant_routes : (h : Holding R) (routes : List (Lane R)) → ArePutOf h.words.slot routes → IsVacant h → IsVacant (moved h h.words h.inbox routes h.total)
  vacant_routes h routes orders k = record { port = k.port; held = held_on None h h.words h.words.seat.view h.inbox routes h.total refl k.held.quiet orders k.held.total k.held }

  pub ended_routes : (h : Holding R) (routes : List (Lane R)) → ArePutOf h.words.slot routes → IsEnded h → IsEnded (moved h h.words h.inbox routes h.total)
  ended_routes h routes orders k = record { port = k.port; held = held_on k.port h h.words h.words.seat.view h.inbox routes h.total refl k.held.quiet orders k.held.total k.held }

  pub ended_inbox : (h : Holding R) (inbox : Box) → IsEnded h → IsEnded (moved h h.words inbox h.routes h.total)
  ended_inbox h inbox k = record { port = k.port; held = held_on k.port h h.words h.words.seat.view inbox h.routes h.total refl k.held.quiet k.held.orders k.held.total k.held }

  -- steps that changed nothing of the routes, or of the seat at the port table
  pub open_same_routes : (o : Open R) (routes : List (Lane R)) → routes ≡ o.own.routes → IsOpen o → IsOpen (with_own o (moved o.own o.own.words o.own.inbox routes o.own.total))
  open_same_routes o routes same k = open_routes o routes (subst (ArePutOf o.own.words.slot) (sym same) k.held.orders) (ap length same) k

  pub ended_same_routes : (h : Holding R) (routes : List (Lane R)) → routes ≡ h.routes → IsEnded h → IsEnded (moved h h.words h.inbox routes h.total)
  ended_same_routes h routes same k = ended_routes h routes (subst (ArePutOf h.words.slot) (sym same) k.held.orders) k

  pub open_same_ports : (o : Open R) (ports : seats.PortSeat) → ports ≡ o.own.ports → IsOpen o → IsOpen (with_own o (record { ports = ports; words = o.own.words; inbox = o.own.inbox; routes = o.own.routes; total = o.own.total }))
  open_same_ports o ports same k = subst (λ (p : seats.PortSeat). IsOpen (with_own o (record { ports = p; words = o.own.words; inbox = o.own.inbox; routes = o.own.routes; total = o.own.total }))) (sym same) k

  -- a slot made from its parts
  pub vacant_of : (ports : seats.PortSeat) (words : Purse) (inbox : Box) (routes : List (Lane R)) → ports.view.slot ≡ Some words.slot → ports.view.port ≡ None → HasClaimedOnly None ports.view
      → IsQuietSeat words.slot words.seat.view → ArePutOf words.slot routes → IsVacant (record { ports = ports; words = words; inbox = inbox; routes = routes; total = 0 })
  vacant_of ports words inbox routes slot port claimed quiet orders = record { port = port; held = record { slot = slot; claimed = claimed; quiet = quiet; orders = orders; total = omega arith } }
