pub mod Text
pub mod Outcome
pub mod Refused
pub mod Table
pub mod Canonical
pub mod Left
pub mod Quick
