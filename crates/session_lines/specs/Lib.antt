pub mod Faults
pub mod Names
pub mod Members
pub mod Requests
pub mod Replies
pub mod Loaded
