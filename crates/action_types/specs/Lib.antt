-- What names a data file, and the bytes of a unique id.
pub mod Files
pub mod Parts
