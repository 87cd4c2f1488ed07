pub mod Examples
pub mod Steps
