-- The calls of the commits API over HTTP: what a request asks for, and what answers it.
pub mod Targets
pub mod Bodies
pub mod Calls
pub mod Answers
