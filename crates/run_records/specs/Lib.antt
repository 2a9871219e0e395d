pub mod Ends
pub mod Books
