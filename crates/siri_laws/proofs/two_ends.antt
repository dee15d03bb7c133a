pub mod Acts
pub mod Logged
pub mod EndsLogged
pub mod Joined
pub mod Ran
