pub mod Wanted
pub mod Kept
