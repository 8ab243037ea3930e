pub mod Form
pub mod Load
pub mod OneFile
pub mod Run
pub mod Serving
pub mod ServingSteps
pub mod Status
pub mod Words
