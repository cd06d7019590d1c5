pub mod Bytes
pub mod Kinds
pub mod Extensions
pub mod Generations
pub mod CauseLaws
pub mod DecodingLaws
pub mod HeaderLaws
