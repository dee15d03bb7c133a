-- In order of reading: the steps of the two ends of a link, and small runs of them; the log of a running end, what is so of it, and
-- the logs of a producer and of a consumer; two ends that are joined, and small runs of them; what runs of the commands have to do
-- with those.
pub mod Acts
pub mod SmallLinks
pub mod Logs
pub mod Truth
pub mod Ends
pub mod Joined
pub mod SmallRuns
pub mod Runs
