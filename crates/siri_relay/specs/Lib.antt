pub mod Feeds
pub mod Goes
pub mod Named
pub mod Nearness
pub mod Relaying
pub mod Reads
pub mod Standing
pub mod Taken
