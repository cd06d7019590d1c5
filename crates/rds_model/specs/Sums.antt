-- What a journal adds up to beside its deliveries: the orders that it took, the maps that it read, and its streams.
-- Source: this project's own.
use Rattle.std.specs.Prelude.{ℕ, suc, ◌==◌, if◌then◌else◌, Option, Some, None, List, [], ◌∷◌, ◌++◌}
use Rattle.rds_wire.specs.declared.frame.Frame.{Frame}
use Rattle.rds_model.specs.declared.entry.Entry.{Entry}
use Rattle.rds_model.specs.declared.entry.Entry.TheVariants.{Accept, Cancel, Open, Pull, Read, Shut, Bad}
use Rattle.rds_model.specs.declared.entry.Outcome.{Outcome}
use Rattle.rds_model.specs.declared.entry.Outcome.TheVariants as outcome
use Rattle.rds_model.specs.declared.entry.Target.{Target}
use Rattle.rds_model.specs.declared.entry.Target.TheVariants.{Port, All}
use Rattle.rds_model.specs.declared.entry.TheConstants.{NO_SLOT}
use Rattle.rds_model.specs.declared.order.Order.{Order}
use Rattle.rds_model.specs.declared.order.Order.TheVariants as order

-- the order of a slot that a cancellation follows
abbrev pub cancellation : (slot : ℕ) → Target → Order
cancellation slot (Port port) = order.Cancel slot port
cancellation slot All = order.CloseSocket slot

-- The orders that the journal took, oldest first: its acceptances and cancellations. A pong, which no socket sends, is
-- no order.
abbrev pub orders : List Entry → List Order
orders [] = []
orders (Accept slot sport dport payload ∷ past) =
    if slot == NO_SLOT then orders past else orders past ++ order.Send slot sport dport payload ∷ []
orders (Cancel slot target ∷ past) = orders past ++ cancellation slot target ∷ []
orders (_ ∷ past) = orders past

abbrev pub with_map : Outcome → List ℕ → List (List ℕ) → List (List ℕ)
with_map outcome.Map payload earlier = earlier ++ payload ∷ []
with_map _ payload earlier = earlier

-- the congestion maps of the peer that were read, oldest first
abbrev pub maps : List Entry → List (List ℕ)
maps [] = []
maps (Read stream frame outcome ∷ past) = with_map outcome frame.payload (maps past)
maps (_ ∷ past) = maps past

-- the numbers of the streams that were opened, oldest first
abbrev pub opens : List Entry → List ℕ
opens [] = []
opens (Open stream ∷ past) = opens past ++ stream ∷ []
opens (_ ∷ past) = opens past

-- how many streams were shut or ended by a malformed header
abbrev pub endings : List Entry → ℕ
endings [] = 0
endings (Shut stream ∷ past) = suc (endings past)
endings (Bad stream header cause ∷ past) = suc (endings past)
endings (_ ∷ past) = endings past

-- the frame that was pulled last on stream s, if one was
abbrev pub newest_pull : ℕ → List Entry → Option Frame
newest_pull s [] = None
newest_pull s (Pull stream frame ∷ past) = if stream == s then Some frame else newest_pull s past
newest_pull s (_ ∷ past) = newest_pull s past

-- the frame that was pulled last, on whatever stream
abbrev pub last_pulled_frame : List Entry → Option Frame
last_pulled_frame [] = None
last_pulled_frame (Pull stream frame ∷ past) = Some frame
last_pulled_frame (_ ∷ past) = last_pulled_frame past
