pub mod Reservations
pub mod Reserved
pub mod Marks
