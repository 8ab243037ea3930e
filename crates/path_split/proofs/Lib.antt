pub mod Circulation
pub mod Walks
pub mod Order
pub mod Rest
pub mod Gathered
pub mod Turns
pub mod Splitting
pub mod Shares
