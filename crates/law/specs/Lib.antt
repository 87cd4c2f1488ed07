pub mod Values
pub mod World
pub mod Law
pub mod Runs
