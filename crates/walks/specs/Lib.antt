pub mod Referring
pub mod Spans
pub mod Looked
