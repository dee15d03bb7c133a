pub mod Told
pub mod Placed
pub mod Having
pub mod Sends
pub mod Answered
pub mod Stopped
pub mod Turned
pub mod Run
