pub mod Machines
pub mod Admissions
pub mod Alone
pub mod Ledger
pub mod Names
pub mod Watched
pub mod Noted
