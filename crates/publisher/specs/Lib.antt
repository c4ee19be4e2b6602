pub mod Causes
pub mod Converting
pub mod Publishing
pub mod Worlds
