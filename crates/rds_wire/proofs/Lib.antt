pub mod FieldSum
pub mod FirstGeneration
pub mod Folding
pub mod OneExt
