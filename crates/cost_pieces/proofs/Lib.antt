pub mod Bounds
pub mod Hundredths
pub mod Rooms
pub mod Slopes
