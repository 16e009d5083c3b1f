pub mod Reading
pub mod Digits
pub mod Fronts
pub mod Printing
