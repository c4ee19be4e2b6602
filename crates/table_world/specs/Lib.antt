pub mod Worlds
pub mod Starting
pub mod Done
