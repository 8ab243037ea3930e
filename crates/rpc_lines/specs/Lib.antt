pub mod Fault
pub mod Json
pub mod Reply
pub mod Request
pub mod Said
pub mod Stored
pub mod Tokens
