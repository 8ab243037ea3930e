pub mod Value
pub mod Leaf
pub mod Members
pub mod Loops
pub mod Pieces
