-- In order of reading: what calls of doors do; whose turn it is; the wire over doors; what order decides; doors in memory; inner words.
pub mod Doors
pub mod Gathered
pub mod Decisions
pub mod Gathers
pub mod Orders
pub mod InMemoryDoors
pub mod Waiting
