-- In order of reading: why a run ends early; the calls that it ends at; its turns; what a run is, of whichever command; what it has
-- to have of the outside to do its work whole; the line that it ends with; and how a producer and a consumer run.
pub mod Errors
pub mod Calls
pub mod Turns
pub mod Ends
pub mod Run
pub mod Left
pub mod Enough
pub mod Summaries
pub mod producers
pub mod consumers
