pub mod Coming
pub mod Draining
pub mod Ending
pub mod Fresh
pub mod Happening
pub mod Printing
pub mod Readiness
pub mod Telling
