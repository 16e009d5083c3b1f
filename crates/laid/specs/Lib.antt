pub mod Store
pub mod Column
pub mod Catalog
pub mod Row
pub mod Entered
