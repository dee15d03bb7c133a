pub mod Answered
pub mod Mapped
pub mod Numbered
pub mod Once
pub mod Placed
pub mod Renumbered
pub mod Carriage
pub mod Parted
