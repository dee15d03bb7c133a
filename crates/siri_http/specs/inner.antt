pub mod HeadParts
pub mod Faults
pub mod Found
pub mod Reading
pub mod Scanning
