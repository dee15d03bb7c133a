pub mod Lines
pub mod Packets
pub mod Consumers
pub mod World
pub mod Goals
pub mod Effects
pub mod Told
pub mod laws
