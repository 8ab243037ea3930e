pub mod Loads
pub mod Pushed
pub mod Grouping
pub mod NodeRows
pub mod DetourIsInstance
