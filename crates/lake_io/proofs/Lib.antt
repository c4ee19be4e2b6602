pub mod Pieces
pub mod Telling
pub mod GivenLemmas
pub mod Hearing
pub mod Moving
pub mod Steps
