mod Chunks
mod Compacts
mod Ends
mod Images
mod Lasts
mod LogLaws
mod Made
pub mod Numbers
mod PairLaws
mod Passes
mod Places
mod RecordLaws
mod RoundTrip
mod TableLaws
