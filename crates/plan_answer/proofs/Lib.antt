pub mod Order
pub mod Floats
pub mod Ascii
pub mod Nodes
pub mod Runs
pub mod Passing
