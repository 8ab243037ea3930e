pub mod Folds
pub mod Histories
pub mod Keeping
pub mod Places
pub mod Runs
pub mod Waiting
