pub mod Lists
pub mod Growth
pub mod Putting
pub mod Steps
pub mod Seats
pub mod Publication
pub mod Entering
pub mod Ascending
