-- Inner words: cited by private functions alone.
pub mod Reading
pub mod Standing
