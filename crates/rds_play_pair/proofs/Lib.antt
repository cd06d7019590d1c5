pub mod Views
pub mod OnTheWay
pub mod Keeping
pub mod Feeding
pub mod JointTrying
pub mod Pulling
mod Frames
pub mod Journals
pub mod Flowing
pub mod Halves
pub mod Refusing
pub mod Joining
pub mod Trying
pub mod Playing
pub mod Whole
