pub mod Numbers
pub mod Steps
pub mod Draws
pub mod Turns
pub mod Bounds
pub mod Told
pub mod Summed
