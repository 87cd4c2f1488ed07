pub mod Owing
pub mod Reading
pub mod Calls
pub mod Plays
