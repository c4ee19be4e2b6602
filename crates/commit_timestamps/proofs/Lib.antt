pub mod DigitLemmas
pub mod Narrowing
pub mod Rising
pub mod Versions
