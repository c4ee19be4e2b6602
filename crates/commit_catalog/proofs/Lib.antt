pub mod Answers
pub mod Staged
