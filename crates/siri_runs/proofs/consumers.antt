pub mod Wanted
pub mod Pieces
pub mod Held
pub mod Shown
pub mod Asked
pub mod Sound
pub mod Whole
