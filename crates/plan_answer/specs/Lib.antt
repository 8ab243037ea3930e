pub mod Records
pub mod EventReply
pub mod Errors
pub mod Order
pub mod RouteRecords
pub mod RoutesReply
pub mod Within
pub mod Laws
