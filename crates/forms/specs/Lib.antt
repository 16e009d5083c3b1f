pub mod Read
pub mod Print
