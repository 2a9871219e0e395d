pub mod DigitLemmas
pub mod EscapeLemmas
pub mod FrameLemmas
pub mod ReadingLemmas
pub mod NumberLemmas
pub mod HexLemmas
