-- What is written of a request and read of a connection that holds it.
pub mod Written
