pub mod Framing
pub mod Reading
pub mod Rooms
pub mod Digits
pub mod Texts
pub mod Commands
