pub mod Chains
pub mod Gained
pub mod Others
pub mod Wholes
