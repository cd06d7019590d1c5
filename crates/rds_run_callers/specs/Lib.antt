pub mod Commands
pub mod Places
pub mod Tenants
pub mod States
pub mod Doing
pub mod Ends
pub mod StoringLaws
