pub mod Blank
pub mod Kinds
pub mod Rounds
pub mod Asked
