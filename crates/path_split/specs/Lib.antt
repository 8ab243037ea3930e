pub mod Path
pub mod Walk
pub mod Edges
pub mod Parts
