pub mod Listens
pub mod Lists
pub mod Memory
pub mod Places
pub mod Unread
mod Examples
