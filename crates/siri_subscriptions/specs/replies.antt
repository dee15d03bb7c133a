pub mod Refusals
pub mod Responses
pub mod Parts
pub mod Statuses
