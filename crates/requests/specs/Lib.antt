pub mod Lines
pub mod Places
pub mod Stream
pub mod Demanded
pub mod CuratorSheet
