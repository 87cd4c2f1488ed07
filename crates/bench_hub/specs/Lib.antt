pub mod Calls
pub mod Outcomes
pub mod Telling
pub mod Playing
pub mod Players
pub mod Scripts
