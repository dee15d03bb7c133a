pub mod Found
pub mod Named
pub mod Starts
pub mod Producers
pub mod Requests
pub mod Deeds
pub mod Asked
pub mod Listed
