pub mod Folder
pub mod Troubles
