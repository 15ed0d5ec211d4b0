pub mod Phases
pub mod Entries
pub mod Rules
pub mod Room
pub mod Seats
pub mod Sound
mod Lists
mod Places
mod Replies
mod Acts
mod Standings
mod Changes
mod Claims
mod Lawful
mod Items
mod Largest
mod Answers
