pub mod Files
pub mod Held
pub mod Telling
pub mod InMemory
pub mod FolderNames
pub mod Directory
