pub mod Accepted
pub mod Degrees
pub mod Shown
