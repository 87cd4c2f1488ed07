pub mod Searches
pub mod Changes
pub mod Lawful
pub mod Firsts
pub mod Touches
pub mod Rooms
