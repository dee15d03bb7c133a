mod Examples
pub mod Consumes
pub mod Lends
pub mod LentTexts
pub mod Looks
pub mod Puts
pub mod Sends
pub mod Serves
pub mod Taking
pub mod Paths
pub mod Posts
pub mod Queries
pub mod HangingUp
