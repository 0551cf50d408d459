pub mod Layout
pub mod Room
pub mod Lookup
pub mod Text
