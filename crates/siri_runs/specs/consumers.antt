-- In order of reading: what lines want; what the reading of a source gives; what a consumer shows; a consumer that answers
-- connections; how its run opens; the whole run. The words in `inner` are cited by private functions alone.
pub mod Wanting
pub mod Reading
pub mod Views
pub mod Consumption
pub mod Opening
pub mod Runs
pub mod inner
