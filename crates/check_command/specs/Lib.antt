pub mod Finding
pub mod Check
