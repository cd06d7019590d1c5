pub mod InPlace
pub mod Differing
