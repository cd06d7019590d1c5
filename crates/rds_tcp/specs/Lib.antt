pub mod Tcp
pub mod Threads
pub mod Pumps
