pub mod ReportLemmas
mod PartLemmas
pub mod SessionLemmas
mod HeadlineLemmas
pub mod FileLemmas
