pub mod Numbers
pub mod Places
pub mod Fitting
pub mod Steps
pub mod Splits
pub mod Joins
pub mod Merging
pub mod Keys
