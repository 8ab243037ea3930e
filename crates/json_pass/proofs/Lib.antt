pub mod Turns
pub mod Fronts
pub mod Slots
pub mod Cuts
pub mod OwnTokens
