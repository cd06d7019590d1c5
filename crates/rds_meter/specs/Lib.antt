pub mod Places
pub mod Seats
pub mod Shared
pub mod Plays
pub mod PartLaws
pub mod CheckLaws
pub mod Grounds
pub mod Joining
