pub mod Faulting
pub mod Validating
pub mod Taking
pub mod Checking
pub mod Fitting
pub mod KeysRead
