pub mod Least
pub mod Searched
pub mod Arbitrating
