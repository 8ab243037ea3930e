pub mod History
pub mod Core
pub mod CoreRun
pub mod Machine
pub mod Refusals
