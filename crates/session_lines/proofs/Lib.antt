pub mod Steps
pub mod Valid
pub mod Loading
