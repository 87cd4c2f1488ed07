pub mod Meaning
pub mod Records
pub mod Tables
pub mod Lists
pub mod LawfulRecords
