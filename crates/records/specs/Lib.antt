pub mod Reading
pub mod Record
pub mod Walked
pub mod Frame
