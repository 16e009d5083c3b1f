pub mod Removed
pub mod Referenced
