pub mod Lent
pub mod Loans
pub mod Mapped
pub mod Numbered
pub mod Table
pub mod Beats
pub mod rounds
