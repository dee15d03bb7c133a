pub mod Texts
pub mod ReportLines
pub mod Steps
pub mod Shown
