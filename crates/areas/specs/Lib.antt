pub mod Records
pub mod Counted
pub mod Sorted
pub mod Search
