pub mod Balance
pub mod Duality
pub mod Costs
pub mod Filled
