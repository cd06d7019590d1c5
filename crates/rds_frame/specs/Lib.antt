pub mod Splitting
pub mod Holding
pub mod Taking
pub mod Fields
