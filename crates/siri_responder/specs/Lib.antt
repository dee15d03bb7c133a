pub mod Known
pub mod FedCounts
pub mod Standing
pub mod Feeding
pub mod Answering
pub mod Looking
pub mod Topics
pub mod Firsts
