pub mod Cutting
pub mod FrontLemmas
pub mod HeadLemmas
pub mod Putting
pub mod Reading
