pub mod Tied
pub mod Steps
