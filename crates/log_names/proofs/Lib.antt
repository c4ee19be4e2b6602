pub mod Digits
pub mod Ids
pub mod Forms
pub mod Names
