pub mod Hop
