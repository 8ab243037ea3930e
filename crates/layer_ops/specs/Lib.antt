pub mod Changes
pub mod LayerRefusal
