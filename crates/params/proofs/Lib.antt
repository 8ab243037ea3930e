pub mod Values
pub mod Chains
pub mod Least
pub mod Members
pub mod Trips
pub mod Paths
pub mod Asked
