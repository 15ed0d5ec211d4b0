pub mod Order
pub mod Transactions
pub mod Questions
pub mod Cards
pub mod Moves
pub mod Certify
pub mod Commit
pub mod Settle
pub mod Tied
pub mod Link
pub mod Steps
pub mod Final
pub mod Whole
pub mod Laws
pub mod Stamps
pub mod Shortcuts
pub mod Example
mod Onward
mod Latest
mod Works
mod Replays
mod Sorting
