pub mod State
pub mod Ports
pub mod Grant
pub mod Carry
pub mod Calls
pub mod Cases
