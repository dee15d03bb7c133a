pub mod OneRequest
pub mod Bytes
pub mod Lined
pub mod Numbers
pub mod Heads
pub mod Hosts
pub mod ReadBack
