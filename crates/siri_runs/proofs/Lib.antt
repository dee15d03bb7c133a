mod Examples
pub mod Causes
pub mod TurnByTurn
pub mod Views
pub mod Enough
pub mod Exchanges
pub mod TurnsTaken
pub mod Statuses
pub mod Run
pub mod producers
pub mod consumers
