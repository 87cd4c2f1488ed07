pub mod Digits
pub mod Entries
mod Examples
