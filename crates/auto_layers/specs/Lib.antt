pub mod LocalLayer
pub mod Expanded
pub mod Added
