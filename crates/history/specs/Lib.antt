pub mod History
pub mod Transactions
pub mod Serial
pub mod Runs
pub mod Reports
pub mod Shortcuts
pub mod Example
