-- In order of reading: what a document comes to; what is told of a response, and the exchange; a run.
pub mod Plans
pub mod Exchanges
pub mod Runs
