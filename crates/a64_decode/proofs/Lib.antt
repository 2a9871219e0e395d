pub mod Tested
pub mod Table
pub mod RowPaths
pub mod RowLemmas
pub mod Words
