pub mod Numbers
pub mod View
pub mod Refusal
pub mod Calls
pub mod Closing
pub mod Rule
pub mod Steps
pub mod Absorbing
