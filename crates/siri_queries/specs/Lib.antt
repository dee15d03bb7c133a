pub mod Paths
pub mod Pairs
pub mod Documents
pub mod Targets
