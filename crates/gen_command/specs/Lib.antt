pub mod Size
pub mod Gen
