-- What no call on a socket changes. This project's own.
use Rattle.std.specs.Prelude.{◌≡◌, ℕ}
use Rattle.rds_fmap.specs.declared.seen.Seen.{Seen}
use Rattle.rds_meter.specs.Grounds.{seats_of}
use Rattle.rds_socket_parts.specs.Lanes.{RoutesStay}
use Rattle.rds_socket.specs.Holding.{Holding, Open}

module _ {R P : Type 0} (pair : R → P) (looked : R → ℕ → Seen → Type 0) where
  -- the slot, both tables and for how many seats its seat at the meter stands, the mailbox and its bell, and of each route its peer, its queue, its number and splits and its pair;
  -- and what a reader has found
  pub record HoldingStays (old new : Holding R) : Type 0 where
    pub slot : new.words.slot ≡ old.words.slot
    pub table : new.ports.table ≡ old.ports.table
    pub meter : new.words.seat.table ≡ old.words.seat.table
    pub seats : seats_of new.words.seat.view ≡ seats_of old.words.seat.view
    pub bell : new.inbox.bell ≡ old.inbox.bell
    pub mail : new.inbox.get.mail ≡ old.inbox.get.mail
    pub routes : RoutesStay pair looked old.routes new.routes

  -- also the port, the buffers, and how many peers were told
  pub record Stays (old new : Open R) : Type 0 where
    pub port : new.port ≡ old.port
    pub sndbuf : new.sndbuf ≡ old.sndbuf
    pub rcvbuf : new.rcvbuf ≡ old.rcvbuf
    pub told : new.told ≡ old.told
    pub own : HoldingStays old.own new.own
