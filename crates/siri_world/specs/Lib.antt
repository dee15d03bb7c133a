pub mod Known
pub mod Refused
pub mod Kept
pub mod Places
pub mod Named
pub mod Asking
pub mod Serving
pub mod Doing
