pub mod Apart
pub mod Followed
pub mod Histories
pub mod Looks
