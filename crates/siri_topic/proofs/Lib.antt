pub mod Dead
pub mod Stays
