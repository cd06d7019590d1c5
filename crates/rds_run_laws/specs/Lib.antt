pub mod Calm
pub mod Few
pub mod Put
pub mod Sent
pub mod Weights
