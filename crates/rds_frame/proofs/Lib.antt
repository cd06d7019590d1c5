pub mod Keeping
pub mod Taking
pub mod OneSplit
pub mod Feeding
pub mod FirstFrame
