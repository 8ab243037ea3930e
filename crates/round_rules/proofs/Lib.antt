pub mod Caps
pub mod Listed
pub mod Advances
pub mod Count
pub mod Keeps
