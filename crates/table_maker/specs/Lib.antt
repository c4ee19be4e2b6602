-- Scripts that are made from a number.
pub mod Script
pub mod Draws
pub mod Knows
pub mod Requests
pub mod Sound
