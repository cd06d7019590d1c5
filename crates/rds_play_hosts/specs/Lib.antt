pub mod Elsewhere
pub mod HostLaws
pub mod Receiving
pub mod Telling
