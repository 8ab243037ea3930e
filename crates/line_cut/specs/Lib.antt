pub mod Buffered
pub mod FirstLen
pub mod Layout
pub mod Lines
pub mod Steps
pub mod WholeLines
pub mod Window
