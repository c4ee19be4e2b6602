pub mod InOrder
pub mod Commits
pub mod Appends
mod Written
mod Answering
pub mod Sorts
mod Orders
mod Putting
pub mod Looking
pub mod Following
mod Readable
mod Rising
mod Lengths
mod Composing
mod Once
