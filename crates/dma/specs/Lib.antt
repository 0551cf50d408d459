pub mod Channels
pub mod Commands
pub mod Registers
pub mod Readback
