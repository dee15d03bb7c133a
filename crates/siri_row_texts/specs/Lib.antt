-- In order of reading: rows of the moment and of items; rows of subscriptions, and their places; rows read back.
pub mod ItemRows
pub mod SubscriptionRows
pub mod Reading
