pub mod Got
pub mod Mapped
