-- In order of reading: a relay as an end of the exchange; one that answers connections; how its run opens; the whole run; what a turn looks at. The words in
-- `Steps` and `Made` are cited by private functions alone.
pub mod Relays
pub mod Passing
pub mod Opening
pub mod Runs
pub mod Looks
pub mod Steps
pub mod Made
