pub mod Residual
pub mod Rows
pub mod Detour
