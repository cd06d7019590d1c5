pub mod Holding
pub mod Stays
pub mod Binds
pub mod Sends
pub mod Calls
