pub mod Ports
pub mod Words
pub mod Lanes
pub mod Boxes
pub mod Refusals
pub mod ChangeLaws
pub mod PlaceLaws
pub mod TiedLaws
