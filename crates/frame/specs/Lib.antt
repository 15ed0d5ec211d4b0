pub mod Faults
pub mod Fields
pub mod Parts
pub mod Drafts
pub mod Requests
pub mod RoundTrip
pub mod Replies
pub mod Serving
