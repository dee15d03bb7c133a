pub mod ProperHistories
pub mod http
pub mod queries
pub mod lite
pub mod two_ends
