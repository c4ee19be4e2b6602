-- Laws of lists for this crate.
pub mod Ends
