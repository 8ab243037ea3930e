pub mod Loads
pub mod Caps
pub mod Untried
pub mod Solution
