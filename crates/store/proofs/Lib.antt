pub mod Meanings
pub mod Rising
pub mod Halving
pub mod Entries
pub mod Rows
pub mod ListRules
