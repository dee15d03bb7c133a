-- What a query asks of a request.
pub mod Queried
