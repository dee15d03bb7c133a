-- In order of reading: connections in the places of others; runs over them.
pub mod Places
pub mod Served
