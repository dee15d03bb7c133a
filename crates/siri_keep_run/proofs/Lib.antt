pub mod Trails
pub mod Over
pub mod Views
pub mod Opened
pub mod Sound
pub mod Whole
pub mod LeftRun
