pub mod Affects
pub mod CallTables
pub mod InOrder
pub mod ItemLaws
pub mod ItemTables
pub mod References
