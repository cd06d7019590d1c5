-- What is left of the slots and the lines of a host when each is told what the others have put. Source: this project's own.
use Rattle.std.specs.Prelude.{◌≡◌, ◌<◌, ℕ, List, ◌++◌, All, Some, length, map, slice_get}
use Rattle.rds_bindtab.specs.declared.view.Telling.{Telling}
use Rattle.rds_bindtab.specs.Seats.{PortSeat, knowing, telling_of}
use Rattle.rds_model.specs.Honest.{Begins}
use Rattle.rds_fmap.specs.Readers.{ReaderView, WriterView}
use Rattle.rds_socket.specs.Calls.{with_inbox, with_own}
use Rattle.rds_socket.specs.Holding.{Holding, Open}
use Rattle.rds_line.specs.Line.{LineView}
use Rattle.rds_host.specs.Telling.{AreAllBoxesTold, AreAllOrdersTold}
use Rattle.rds_host.specs.Ties.{AreOfHost}

module _ {R : Type 0} where
  -- the mailbox of a slot was told more, and nothing else of the slot changed
  pub record IsToldMore (old new : Holding R) : Type 0 where
    pub rest : new ≡ with_inbox old (record old.inbox { get = record old.inbox.get { told = new.inbox.get.told } })
    pub told : Begins old.inbox.get.told new.inbox.get.told

  -- the same slots, place by place, each of which may have been told more
  pub record AreSlotsToldMore (old new : List (Holding R)) : Type 0 where
    pub count : length new ≡ length old
    pub each : (slot : ℕ) (h after : Holding R) → slice_get old slot ≡ Some h → slice_get new slot ≡ Some after → IsToldMore h after

  -- nothing of a socket changed but what its slot holds: it has the same port and buffers, and told as many peers that it closes
  abbrev pub IsSameSocket : (old new : Open R) → Type 0
  IsSameSocket old new = new ≡ with_own old new.own

  -- the same sockets, place by place
  pub record AreSameSockets (old new : List (Open R)) : Type 0 where
    pub count : length new ≡ length old
    pub each : (place : ℕ) (socket after : Open R) → slice_get old place ≡ Some socket → slice_get new place ≡ Some after → IsSameSocket socket after

  -- what these sockets tell of their ports, in their order
  abbrev pub ports_of : List (Open R) → List Telling
  ports_of sockets = map (λ s. telling_of s.own.ports.view) sockets

-- a seat at the port table once it was told of these ports as well
abbrev pub knowing_ports : PortSeat → List Telling → PortSeat
knowing_ports seat ports = knowing seat (record seat.view { told = seat.view.told ++ ports })

module _ {E M : Type 0} where
  -- the orders of a line were told more, its seat at the port table was told of these ports, and nothing else of the line changed
  pub record IsLineToldMore (ports : List Telling) (old new : LineView E M) : Type 0 where
    pub rest : new ≡ record old { orders = record old.orders { told = new.orders.told }; ports = knowing_ports old.ports ports }
    pub told : Begins old.orders.told new.orders.told

  -- the same lines, place by place, each of which may have been told more orders, and was told of these ports
  pub record AreLinesToldMore (ports : List Telling) (old new : List (LineView E M)) : Type 0 where
    pub count : length new ≡ length old
    pub each : (place : ℕ) (line after : LineView E M) → slice_get old place ≡ Some line → slice_get new place ≡ Some after → IsLineToldMore ports line after

module _ {E : Type 0} where
  -- these slots and these lines can tell each other: they are of one host, and each slot has a route to each line, and each line a
  -- mailbox of each slot
  pub record CanTell (slots : List (Holding ReaderView)) (lines : List (LineView E WriterView)) : Type 0 where
    pub host : AreOfHost slots lines
    pub routes : All (λ h. length h.routes ≡ length lines) slots
    pub boxes : All (λ h. All (λ line. h.words.slot < length line.boxes) lines) slots

  -- each line was told all orders of these slots, and of these ports, each of these slots all datagrams of each line, and nothing else
  -- changed
  pub record AreSettled (ports : List Telling) (slots after : List (Holding ReaderView)) (lines told : List (LineView E WriterView)) : Type 0 where
    pub slots_stay : AreSlotsToldMore slots after
    pub lines_stay : AreLinesToldMore ports lines told
    pub orders : AreAllOrdersTold after told
    pub boxes : AreAllBoxesTold after told
