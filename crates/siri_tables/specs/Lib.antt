pub mod Refusals
pub mod Scalars
pub mod Rules
pub mod Spelling
pub mod Writing
pub mod Appended
pub mod Proper
pub mod Tables
