pub mod Lines
pub mod Cuts
pub mod Lowering
pub mod Numbered
pub mod Joins
pub mod Halfway
pub mod Pieced
