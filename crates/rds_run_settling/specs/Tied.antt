-- A host of a run: the slots of its caller, and its lines. Source: this project's own.
use Rattle.std.specs.Prelude.{◌≡◌, ℕ, List, Some, length, map, slice_get}
use Rattle.rds_model.specs.declared.order.Datagram.{Datagram}
use Rattle.rds_fmap.specs.Readers.{ReaderView, WriterView}
use Rattle.rds_socket.specs.Holding.{Holding, Open}
use Rattle.rds_line.specs.Line.{LineView}
use Rattle.rds_host.specs.Passes.{AreAllPasses}
use Rattle.rds_host.specs.Telling.{AreBoxesTold, AreOrdersTold, IsPortTold}
use Rattle.rds_host.specs.Ties.{AreOfHost}
use Rattle.rds_run_callers.specs.Places.{Bound, Place, holding_of, with_holding}

-- what the slots of a caller hold
abbrev pub holdings : List Place → List (Holding ReaderView)
holdings places = map holding_of places

-- nothing changed of a slot but what its mailbox was told
abbrev pub SlotHears : Holding ReaderView → Holding ReaderView → Type 0
SlotHears old new = new ≡ record old { inbox = record old.inbox { get = record old.inbox.get { told = new.inbox.get.told } } }

abbrev pub PlaceHears : Place → Place → Type 0
PlaceHears old new = (new ≡ with_holding old (holding_of new)) × SlotHears (holding_of old) (holding_of new)

-- so it is of each slot
pub record PlacesHear (old new : List Place) : Type 0 where
  pub count : length new ≡ length old
  pub each : (slot : ℕ) (p q : Place) → slice_get old slot ≡ Some p → slice_get new slot ≡ Some q → PlaceHears p q

module _ {E : Type 0} where
  -- the slots and the lines are of one host, and have all putters of its queues
  pub record AreTied (places : List Place) (lines : List (LineView E WriterView)) : Type 0 where
    pub host : AreOfHost (holdings places) lines
    pub passes : AreAllPasses (holdings places) lines

  -- nothing changed of a line but what its queue was told
  abbrev pub LineHears : LineView E WriterView → LineView E WriterView → Type 0
  LineHears old new = new ≡ record old { orders = record old.orders { told = new.orders.told } }

  pub record LinesHear (old new : List (LineView E WriterView)) : Type 0 where
    pub count : length new ≡ length old
    pub each : (place : ℕ) (line after : LineView E WriterView) → slice_get old place ≡ Some line → slice_get new place ≡ Some after → LineHears line after

  -- each line was told of all orders that the slots have put for it
  abbrev pub AreLinesTold : List (Holding ReaderView) → List (LineView E WriterView) → Type 0
  AreLinesTold slots lines = (place : ℕ) (line : LineView E WriterView) → slice_get lines place ≡ Some line → AreOrdersTold slots place line

  -- each slot was told of all datagrams that the lines have put into its mailbox
  abbrev pub AreSlotsTold : List (Holding ReaderView) → List (LineView E WriterView) → Type 0
  AreSlotsTold slots lines = (slot : ℕ) (h : Holding ReaderView) → slice_get slots slot ≡ Some h → AreBoxesTold h lines

  -- nothing changed of a line but what its seat at the port table was told; the seat made no step
  abbrev pub LineLearnsPorts : LineView E WriterView → LineView E WriterView → Type 0
  LineLearnsPorts old new = (new ≡ record old { ports = new.ports }) × (new.ports.table ≡ old.ports.table) × (new.ports.view.steps ≡ old.ports.view.steps)

  pub record LinesLearnPorts (old new : List (LineView E WriterView)) : Type 0 where
    pub count : length new ≡ length old
    pub each : (place : ℕ) (line after : LineView E WriterView) → slice_get old place ≡ Some line → slice_get new place ≡ Some after → LineLearnsPorts line after

  -- the seat of each line was told of the port of each socket that is bound
  abbrev pub ArePortsTold : List Place → List (LineView E WriterView) → Type 0
  ArePortsTold places lines = (slot place : ℕ) (o : Open ReaderView) (got : List Datagram) (line : LineView E WriterView) →
      slice_get places slot ≡ Some (Bound o got) → slice_get lines place ≡ Some line → IsPortTold line.ports o.own.ports
