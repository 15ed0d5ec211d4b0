pub mod Bytes
pub mod Packed
pub mod Faults
pub mod Table
pub mod Log
pub mod Pair
pub mod Few
