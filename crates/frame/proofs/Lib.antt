mod Bytes
mod Taking
mod RoundTrips
mod ReplyTrips
mod Written
mod Answering
