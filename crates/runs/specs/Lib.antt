pub mod World
pub mod Law
pub mod Examples
