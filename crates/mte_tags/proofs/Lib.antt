mod Choices
mod Allowed
mod RandomBits
pub mod Pages
pub mod PageLaws
pub mod Whole
pub mod StateLaws
pub mod ByteLaws
pub mod TagLaws
pub mod FaultLaws
pub mod AddressLists
pub mod ModeLaws
mod SameAccess
pub mod RunSteps
pub mod GranuleLists
pub mod PageRuns
pub mod TagRuns
pub mod FoundPages
pub mod FixedPages
