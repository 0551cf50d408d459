pub mod Rig
pub mod Machine
pub mod Calls
pub mod Text
pub mod Layout
pub mod Counts
pub mod Lines
