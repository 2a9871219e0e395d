mod Places
mod Found
mod PageLists
mod Unwritten
