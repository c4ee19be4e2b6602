pub mod Others
pub mod Judging
pub mod Among
pub mod Lasting
