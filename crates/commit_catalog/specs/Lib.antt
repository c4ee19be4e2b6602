pub mod Records
pub mod Ratifying
