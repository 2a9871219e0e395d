pub mod Tables
pub mod TableSteps
pub mod Translations
pub mod Windows
pub mod Whole
