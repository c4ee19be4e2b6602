pub mod Converting
pub mod Causes
pub mod Reading
pub mod Texts
pub mod Snapshots
