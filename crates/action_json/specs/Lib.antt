pub mod Lines
pub mod CheckpointLines
pub mod Commit
pub mod Text
pub mod Keys
pub mod Reading
pub mod Digests
pub mod Quick
