-- In order of reading: what is kept of a subscription; what each message about subscriptions does to the table, and its answer;
-- then a settle: what is due to one subscription, the messages, the sends, and the settle of all.
pub mod Courses
pub mod Looked
pub mod Noted
pub mod Requests
pub mod Prepared
pub mod Terminations
pub mod Endings
pub mod Acknowledgements
pub mod Supplies
pub mod Supplying
pub mod Renewals
pub mod Renewing
pub mod Rounds
pub mod Openings
pub mod Messages
pub mod Sends
pub mod Settled
pub mod Due
pub mod Again
pub mod replies
