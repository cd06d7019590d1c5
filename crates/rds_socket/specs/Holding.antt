-- What contracts see of a slot without a port, of a socket and of one that has ended. This project's own.
use Rattle.std.specs.Prelude.{◌≡◌, ◌≤◌, ◌+◌, ◌*◌, ◌^◌, ℕ, List, length, Option, Some, None, unwrap_or}
use Rattle.rds_socket.specs.declared.buffers.TheConstants.{MAX_BUFFER}
use Rattle.rds_bindtab.specs.Seats as seats
use Rattle.rds_socket_parts.specs.Ports.{HasClaimedOnly}
use Rattle.rds_socket_parts.specs.Words.{Purse, IsQuietSeat}
use Rattle.rds_socket_parts.specs.Boxes.{Box}
use Rattle.rds_socket_parts.specs.Lanes.{Lane, ArePutOf}

-- what each of them holds: its seat at the port table, its words, its mailbox, its routes, and the bytes that it has sent in all
pub record Holding (R : Type 0) : Type 0 where
  pub ports : seats.PortSeat
  pub words : Purse
  pub inbox : Box
  pub routes : List (Lane R)
  pub total : ℕ

-- these, in that order
abbrev pub parts_held : {R : Type 0} → seats.PortSeat → Purse → Box → List (Lane R) → ℕ → Holding R
parts_held ports words inbox routes total = record { ports = ports; words = words; inbox = inbox; routes = routes; total = total }

-- a socket: its port and buffers, how many peers were told that it closes, where it is closing, and what it holds
pub record Open (R : Type 0) : Type 0 where
  pub port : ℕ
  pub sndbuf : ℕ
  pub rcvbuf : ℕ
  pub told : Option ℕ
  pub own : Holding R

-- a send buffer may have so many bytes
abbrev pub IsSendBuffer : ℕ → Type 0
IsSendBuffer bytes = (1 ≤ bytes) × (bytes ≤ MAX_BUFFER)

-- a receive buffer may have so many bytes: at least 2, since a port's bit is lowered only below half of them
abbrev pub IsReceiveBuffer : ℕ → Type 0
IsReceiveBuffer bytes = (2 ≤ bytes) × (bytes ≤ MAX_BUFFER)

-- As many bytes as one socket can ever have sent. Each of the 4,095 seats at a meter adds 2^52 to a word at most, so no more than 4,095
-- times 2^52 bytes of a slot are ever freed; and what was sent is ahead of what was freed by one send buffer at most.
abbrev pub most_sent : ℕ
most_sent = 4095 * 2 ^ 52 + MAX_BUFFER

-- Both seats are of one slot, each port that it claimed is this one, its meter seat is quiet, its queues hold only orders of
-- its slot and cuts, and it has sent no more than a socket can.
pub record IsHolding {R : Type 0} (port : Option ℕ) (h : Holding R) : Type 0 where
  pub slot : h.ports.view.slot ≡ Some h.words.slot
  pub claimed : HasClaimedOnly port h.ports.view
  pub quiet : IsQuietSeat h.words.slot h.words.seat.view
  pub orders : ArePutOf h.words.slot h.routes
  pub total : h.total ≤ most_sent

module _ {R : Type 0} where
  -- how many peers were told that the socket closes
  abbrev pub told_of : Open R → ℕ
  told_of o = unwrap_or o.told 0

  -- a vacant slot holds no port and has claimed none
  pub record IsVacant (h : Holding R) : Type 0 where
    pub port : h.ports.view.port ≡ None
    pub held : IsHolding None h

  -- a socket holds its port
  pub record IsOpen (o : Open R) : Type 0 where
    pub port : o.own.ports.view.port ≡ Some o.port
    pub held : IsHolding (Some o.port) o.own
    pub sndbuf : IsSendBuffer o.sndbuf
    pub rcvbuf : IsReceiveBuffer o.rcvbuf
    pub told : told_of o ≤ length o.own.routes

  -- a slot whose use has ended has had one port at most
  pub record IsEnded (h : Holding R) : Type 0 where
    pub port : Option ℕ
    pub held : IsHolding port h
