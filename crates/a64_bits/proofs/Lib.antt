pub mod FieldLemmas
pub mod ArithmeticLemmas
pub mod ShiftLemmas
pub mod MaskLemmas
pub mod CountLemmas
pub mod MoveLemmas
pub mod OrderLemmas
pub mod ProductLemmas
