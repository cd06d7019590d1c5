pub mod Places
pub mod Ends
pub mod Known
pub mod FinalJournals
pub mod Inside
