pub mod Periods
pub mod Entries
pub mod Watching
