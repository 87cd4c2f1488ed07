pub mod Memory
pub mod Surveys
pub mod Slips
pub mod Writing
pub mod Compositions
pub mod Changes
