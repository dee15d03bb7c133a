pub mod Changes
pub mod Looks
pub mod Parts
pub mod Same
pub mod Views
