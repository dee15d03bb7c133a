-- In order of reading: a line of a script and the arguments of its word; the event that it says; the lines of a report; what
-- the lines of a script bring, which is the report; what the views of a report show. The words in `inner` are cited by
-- private functions alone.
pub mod Lines
pub mod Arguments
pub mod Events
pub mod ReportLines
pub mod Report
pub mod Views
pub mod inner
