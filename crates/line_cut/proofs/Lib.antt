pub mod Calls
pub mod FirstLine
pub mod LayoutLemmas
pub mod LinesLemmas
pub mod Pending
pub mod Slices
pub mod Waiting
pub mod WholeLines
