pub mod Receipts
pub mod Claims
pub mod Finding
