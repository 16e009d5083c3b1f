pub mod Buffers
pub mod Flow
pub mod Course
pub mod Demanded
