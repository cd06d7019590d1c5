pub mod Hosts
pub mod FinalState
pub mod Report
pub mod FinalViews
pub mod Words
pub mod Ports
pub mod Lines
pub mod Refusals
