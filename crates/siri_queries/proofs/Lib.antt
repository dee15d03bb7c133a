pub mod Bounds
pub mod Forms
pub mod InOrder
pub mod Topics
