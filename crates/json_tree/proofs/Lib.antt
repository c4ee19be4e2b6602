mod Turns
pub mod Entries
