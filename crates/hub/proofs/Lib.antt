pub mod Entries
pub mod Surveys
pub mod Written
pub mod Compositions
pub mod Owed
pub mod Kept
pub mod Refused
pub mod Changes
