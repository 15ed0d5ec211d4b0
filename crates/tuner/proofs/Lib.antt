pub mod Turns
pub mod Handling
