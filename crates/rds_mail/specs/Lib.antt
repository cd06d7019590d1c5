pub mod Numbers
pub mod Views
pub mod Shared
pub mod Plays
pub mod Passes
pub mod Learning
pub mod Merging
pub mod Orders
