pub mod Written
pub mod Meeting
pub mod LineBreaks
pub mod Steps
pub mod Whole
pub mod Worlds
pub mod Fronts
