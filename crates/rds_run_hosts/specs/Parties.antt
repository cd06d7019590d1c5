-- The hosts of a run: their callers, and their lines to each other. Source: this project's own.
use Rattle.std.specs.Prelude.{◌≡◌, ℕ, List, [], Some, length, slice_get}
use Rattle.rds_bindtab.specs.Seats.{telling_of}
use Rattle.rds_model.specs.declared.order.Datagram.{Datagram}
use Rattle.rds_fmap.specs.Readers.{ReaderView, WriterView}
use Rattle.rds_socket.specs.Holding.{Open}
use Rattle.rds_line.specs.Line.{LineView}
use Rattle.rds_line.specs.Seats.{WasAlwaysTold}
use Rattle.rds_script.specs.declared.script.Placed.{Placed}
use Rattle.rds_run_callers.specs.Places.{Bound, CallerView, Place}
use Rattle.rds_run_rounds.specs.Grid.{IsAt}
use Rattle.rds_run_settling.specs.Tied.{AreTied}
use Rattle.rds_run_hosts.specs.Obeyed.{AreNewPlaces, HasObeyed, after_binds, leading_binds, slot_count}

-- the callers and the lines of so many hosts, by host: those of each belong together
pub record AreParties {E : Type 0} (hosts : ℕ) (callers : List CallerView) (rows : List (List (LineView E WriterView))) : Type 0 where
  pub callers_count : length callers ≡ hosts
  pub rows_count : length rows ≡ hosts
  pub tied : (host : ℕ) (caller : CallerView) (row : List (LineView E WriterView)) → slice_get callers host ≡ Some caller → slice_get rows host ≡ Some row →
      AreTied caller.places row

-- the caller of each host has so many slots as the commands give it, which are all new
abbrev pub AreNewCallers : (hosts : ℕ) → List Placed → List CallerView → Type 0
AreNewCallers hosts commands callers = (host : ℕ) (caller : CallerView) → slice_get callers host ≡ Some caller →
    (length caller.places ≡ slot_count host commands) × AreNewPlaces hosts host caller.places

-- the callers did these commands, one after the other, each those of its own host
pub record HaveObeyed (commands : List Placed) (old new : List CallerView) : Type 0 where
  pub count : length new ≡ length old
  pub each : (host : ℕ) (caller after : CallerView) → slice_get old host ≡ Some caller → slice_get new host ≡ Some after →
      HasObeyed host commands caller.places after.places

-- no line of any host has looked up a port yet
abbrev pub HaveNotLooked : {E : Type 0} → List (List (LineView E WriterView)) → Type 0
HaveNotLooked {E} rows = (host place : ℕ) (line : LineView E WriterView) → IsAt rows host place line → line.ports.view.steps ≡ []

-- The caller of a host did the binds that a script begins with, and then its other commands. Each of the host's lines had been told, before
-- it looked up any port, of the port of each socket that was bound by then.
pub record HasLed {E : Type 0} (host : ℕ) (commands : List Placed) (first last : List Place) (lines : List (LineView E WriterView)) : Type 0 where
  pub led : List Place
  pub began : HasObeyed host (leading_binds commands) first led
  pub rest : HasObeyed host (after_binds commands) led last
  pub told : (slot place : ℕ) (o : Open ReaderView) (got : List Datagram) (line : LineView E WriterView) → slice_get led slot ≡ Some (Bound o got) →
      slice_get lines place ≡ Some line → WasAlwaysTold (telling_of o.own.ports.view) line.ports.view

-- so did each
abbrev pub HaveLed : {E : Type 0} → List Placed → (old new : List CallerView) → List (List (LineView E WriterView)) → Type 0
HaveLed {E} commands old new rows = (host : ℕ) (caller after : CallerView) (row : List (LineView E WriterView)) → slice_get old host ≡ Some caller →
    slice_get new host ≡ Some after → slice_get rows host ≡ Some row → HasLed host commands caller.places after.places row
