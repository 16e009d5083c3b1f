pub mod Page
pub mod Turn
pub mod Back
pub mod Books
