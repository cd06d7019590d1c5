pub mod Encoding
pub mod Listed
