pub mod Counting
pub mod Sheet
pub mod Timing
pub mod Lending
pub mod Periods
pub mod Watchdog
pub mod Cases
