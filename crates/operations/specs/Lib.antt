pub mod Told
pub mod Created
pub mod Batched
pub mod Counted
