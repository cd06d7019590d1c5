pub mod Places
pub mod Stepping
pub mod Knowing
pub mod FinalJournals
