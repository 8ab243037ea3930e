pub mod Serving
pub mod Work
pub mod Counter
pub mod Place
pub mod Gathering
pub mod Works
pub mod Bind
pub mod MemBind
