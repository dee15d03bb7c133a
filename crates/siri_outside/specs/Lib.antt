-- In order of reading: when a call fails; what calls of the outside do; wires; shelves; all of it in memory.
pub mod Causes
pub mod Failures
pub mod OutsideCalls
pub mod Wires
pub mod MetFailures
pub mod Rows
pub mod Shelves
pub mod InMemoryFailures
pub mod InMemoryLines
pub mod InMemoryWires
pub mod InMemoryShelves
