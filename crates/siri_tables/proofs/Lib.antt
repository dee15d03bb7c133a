pub mod Appended
pub mod Ascii
pub mod Back
pub mod BackLists
pub mod BackValues
pub mod CanonicalParts
mod Capped
pub mod DecimalRead
mod Digits
pub mod Entries
pub mod Nonempty
pub mod ProperParts
pub mod RowSpells
pub mod Sorted
pub mod Steps
pub mod TableLaws
pub mod ValueLaws
