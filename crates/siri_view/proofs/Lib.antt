pub mod Firsts
pub mod Keyed
pub mod Only
pub mod Outcomes
pub mod Places
pub mod Restarted
pub mod Taken
pub mod Unchanged
