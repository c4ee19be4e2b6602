pub mod Broken
pub mod Features
pub mod Texts
pub mod Seen
