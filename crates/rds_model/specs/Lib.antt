-- Whoever doubts the laws reads these first, in this order: Past, Streams, Alive, Owed, Reading, Legal, Honest, Fifo, Pairs
-- and Drained; then Examples, on which they are tried. Deliveries and Sums are what hosts tie their tables to, Bounded says how
-- many entries a journal may have, Log and Store what the contracts of a journal and of a store of messages say. The files
-- whose names end in Laws are proved: nothing in them has to be believed.
pub mod Log
pub mod Past
pub mod Streams
pub mod Alive
pub mod Owed
pub mod Reading
pub mod Legal
pub mod Honest
pub mod Fifo
pub mod Pairs
pub mod Deliveries
pub mod Sums
pub mod Bounded
pub mod Drained
pub mod Store
pub mod Examples
pub mod BoundLaws
pub mod DueLaws
pub mod EndingLaws
pub mod FrameLaws
pub mod PullLaws
pub mod LeastDueLaws
pub mod LegalityLaws
pub mod NumberLaws
pub mod OwingLaws
pub mod StreamLaws
pub mod SumLaws
pub mod DeliveryLaws
