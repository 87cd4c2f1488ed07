pub mod Refusals
pub mod Lines
pub mod Dispatch
pub mod House
