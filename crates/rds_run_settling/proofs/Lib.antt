pub mod Tying
pub mod Told
pub mod Listening
pub mod Ports
