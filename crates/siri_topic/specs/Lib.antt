pub mod Agreement
pub mod Crossed
pub mod Shown
pub mod Services
