pub mod Fronts
pub mod Places
pub mod Pairs
pub mod Table
pub mod Spelling
pub mod Shown
