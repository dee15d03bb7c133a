-- Inner words: cited by private functions alone.
pub mod Standing
pub mod Steps
pub mod Shown
