pub mod Crossing
pub mod Fold
pub mod Gathering
pub mod Holds
pub mod Leaving
pub mod Reached
pub mod Room
pub mod Stands
pub mod Ranks
pub mod Shown
mod Uncrossed
pub mod ByEntry
pub mod FirstVisits
