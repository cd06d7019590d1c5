pub mod Versions
pub mod Views
pub mod Readers
pub mod Shared
pub mod Plays
pub mod Entries
pub mod TwoCopies
pub mod Settled
