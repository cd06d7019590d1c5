pub mod Seats
pub mod Shared
pub mod Plays
pub mod Answers
pub mod LookLaws
