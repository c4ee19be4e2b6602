pub mod Wording
pub mod Holding
