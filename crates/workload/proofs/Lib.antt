pub mod Turns
pub mod Texts
pub mod Lines
pub mod Ends
