-- In order of reading: what a request asks where queries are answered; what a query is for a run.
pub mod Asking
pub mod Replacing
