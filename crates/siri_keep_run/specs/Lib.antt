-- In order of reading: a producer over a shelf that serves connections; how its run opens; the whole run.
pub mod Serving
pub mod Opening
pub mod Runs
pub mod Left
