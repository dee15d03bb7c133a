pub mod Takes
pub mod Lines
pub mod Looks
pub mod Passes
pub mod Sound
pub mod Whole
