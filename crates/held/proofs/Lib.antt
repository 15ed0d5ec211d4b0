pub mod Made
mod Whole
