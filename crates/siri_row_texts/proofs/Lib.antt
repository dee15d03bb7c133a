pub mod Alone
pub mod Asked
mod Begun
mod Bounds
mod Firsts
mod Joined
pub mod MomentRows
pub mod PlaceOrder
pub mod Requests
pub mod Rows
