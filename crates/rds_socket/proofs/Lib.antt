pub mod Quiet
pub mod Orders
pub mod Claims
pub mod Kept
pub mod Staying
pub mod Ends
pub mod Receipts
pub mod Sends
