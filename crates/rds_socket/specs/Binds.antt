-- What a bind answers, and what it leaves. This project's own.
use Rattle.std.specs.Prelude.{◌≡◌, ℕ, Ok, Err, Some, None, Result}
use Rattle.rds_bindtab.specs.Seats as seats
use Rattle.rds_bindtab.specs.Answers.{ClaimFits, after_claim}
use Rattle.rds_bindtab.specs.declared.error.BindError.{BindError}
use Rattle.rds_bindtab.specs.declared.error.BindError.TheVariants.{NoneFree}
use Rattle.rds_meter.specs.Seats.{after_store}
use Rattle.rds_socket_parts.specs.Ports.{first_port, SearchFits}
use Rattle.rds_socket_parts.specs.Words.{purse_with}
use Rattle.rds_socket.specs.Holding.{Holding, Open, parts_held}

module _ {R : Type 0} where
  -- the limit word was set, and then the seat at the port table made its steps
  abbrev pub after_claims_of : Holding R → ℕ → seats.PortSeat → Holding R
  after_claims_of h rcvbuf ports =
      parts_held ports (purse_with h.words (after_store h.words.seat.view h.words.slot rcvbuf)) h.inbox h.routes h.total

  -- a socket that was bound just now
  abbrev pub bound : Holding R → ℕ → ℕ → ℕ → seats.PortSeat → Open R
  bound h port sndbuf rcvbuf ports = record { port = port; sndbuf = sndbuf; rcvbuf = rcvbuf; told = None; own = after_claims_of h rcvbuf ports }

  -- the seat once its claim of a port was answered
  abbrev pub after_answer : Holding R → ℕ → Result (Unit {0}) BindError → seats.PortSeat
  after_answer h port answer = seats.knowing h.ports (after_claim h.ports.view port answer)

  -- a bind answers as its one claim
  abbrev pub BindFits : Holding R → ℕ → ℕ → ℕ → Result (Open R) (Holding R × BindError) → Type 0
  BindFits h port sndbuf rcvbuf (Ok o) = ClaimFits port (Ok tt) × (o ≡ bound h port sndbuf rcvbuf (after_answer h port (Ok tt)))
  BindFits h port sndbuf rcvbuf (Err e) = ClaimFits port (Err e.1) × (e.0 ≡ after_claims_of h rcvbuf (after_answer h port (Err e.1)))

  -- a bind of any port answers as its search
  abbrev pub BindAnyFits : Holding R → ℕ → ℕ → ℕ → Result (Open R) (Holding R × BindError) → Type 0
  BindAnyFits h start sndbuf rcvbuf (Ok o) = SearchFits h.ports (first_port start) (Some o.port) o.own.ports × (o ≡ bound h o.port sndbuf rcvbuf o.own.ports)
  BindAnyFits h start sndbuf rcvbuf (Err e) = (e.1 ≡ NoneFree) × SearchFits h.ports (first_port start) None e.0.ports × (e.0 ≡ after_claims_of h rcvbuf e.0.ports)
