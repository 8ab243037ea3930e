pub mod Instance
pub mod Flow
pub mod Potentials
pub mod Side
pub mod Solved
pub mod Laws
