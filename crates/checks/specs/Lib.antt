pub mod Faults
pub mod Asked
pub mod Keys
