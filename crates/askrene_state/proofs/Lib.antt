pub mod Entries
pub mod Steps
pub mod Refused
pub mod Asked
pub mod Routes
