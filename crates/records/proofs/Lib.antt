pub mod Framing
pub mod Walking
