pub mod AddressTexts
pub mod Alone
pub mod Connections
pub mod FieldValues
pub mod Fronts
pub mod HeadExamples
pub mod HeadTexts
pub mod Lines
pub mod Sending
pub mod Numbers
pub mod ReadOn
pub mod Saying
mod Examples
