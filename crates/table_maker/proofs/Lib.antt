pub mod Loop
pub mod Soundness
