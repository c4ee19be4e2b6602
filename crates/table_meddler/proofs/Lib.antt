pub mod Afterwards
pub mod ReadWorlds
pub mod Judged
pub mod Made
