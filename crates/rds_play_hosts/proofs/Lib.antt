pub mod KeptSockets
pub mod OneSocket
pub mod Receiving
pub mod Searching
pub mod TakingIn
