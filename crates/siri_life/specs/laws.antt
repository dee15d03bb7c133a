pub mod Claims
pub mod Restarts
pub mod Schedules
