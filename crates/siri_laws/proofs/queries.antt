pub mod Bytes
pub mod FirstPairs
pub mod RowTexts
pub mod AskedTopics
pub mod OnlyTopics
pub mod ReadBack
