pub mod Carriage
pub mod InParts
pub mod Leads
pub mod Levels
pub mod SameItems
pub mod Viewed
pub mod Walks
