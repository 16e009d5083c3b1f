pub mod Basic
pub mod Bytes
pub mod Value
pub mod Meaning
pub mod Cell
pub mod Area
