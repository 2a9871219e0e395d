pub mod Flags
pub mod Courses
pub mod Debuggees
