pub mod Scale
pub mod Pieces
pub mod UnitCost
