pub mod Layers
pub mod LayerSteps
pub mod ReservationSteps
pub mod RoutesStep
pub mod Step
pub mod Replies
