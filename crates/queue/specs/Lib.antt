pub mod Tokens
pub mod Queues
