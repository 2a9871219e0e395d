pub mod Headers
pub mod Images
pub mod Loading
pub mod Pages
pub mod ErrorNames
