pub mod Names
pub mod Gaining
pub mod Chain
pub mod Together
pub mod Whole
pub mod Others
