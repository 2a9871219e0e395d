pub mod HeapAnswers
pub mod HeapWorlds
pub mod Reports
pub mod InstructionAccesses
pub mod Traces
