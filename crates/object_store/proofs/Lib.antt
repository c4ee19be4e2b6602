mod HeldFiles
mod Counting
mod Counted
pub mod FileLaws
