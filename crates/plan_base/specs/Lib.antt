pub mod Number
pub mod Amount
pub mod NodeId
pub mod Scid
pub mod Dir
pub mod Fee
pub mod Held
