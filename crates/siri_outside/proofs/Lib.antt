pub mod MetFailures
mod Lines
pub mod Parts
pub mod Order
