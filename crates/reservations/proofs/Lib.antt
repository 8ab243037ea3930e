pub mod Unmarked
mod Earliest
mod Kept
mod SetFree
mod Good
