pub mod Writing
pub mod Changing
pub mod RowRemoved
pub mod RowAdded
pub mod RowReplaced
