-- The time of the next commit, and the version at a time.
pub mod Digits
pub mod Search
pub mod Times
pub mod View
