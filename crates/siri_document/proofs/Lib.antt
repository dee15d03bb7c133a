pub mod OneDocument
pub mod Texts
pub mod ItemTexts
pub mod Results
