pub mod Names
pub mod Registers
pub mod Operands
pub mod Conditions
