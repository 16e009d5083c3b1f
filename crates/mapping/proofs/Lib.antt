pub mod Read
pub mod ValuesFrom
pub mod Mapping
pub mod Pairs
