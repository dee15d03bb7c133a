-- In order of reading: a producer that serves; how its run opens; the whole run.
pub mod Serving
pub mod Opening
pub mod Runs
pub mod Steps
