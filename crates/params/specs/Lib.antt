pub mod Parameters
pub mod Kinds
pub mod Tables
pub mod Methods
pub mod Printed
pub mod Fault
pub mod Reading
pub mod Asked
