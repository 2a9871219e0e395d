mod Entering
mod KeptMemory
mod Runs
mod WithoutAccess
