pub mod Members
pub mod Slashes
