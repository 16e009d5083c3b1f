pub mod Fresh
pub mod Tested
pub mod Journal
