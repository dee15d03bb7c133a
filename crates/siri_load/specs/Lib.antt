-- In order of reading: what is drawn; the events; the script and what it comes to; what a run leaves in its sink. The words of
-- `Playing` are cited by private functions alone.
pub mod Generator
pub mod Events
pub mod Load
pub mod Runs
pub mod Playing
