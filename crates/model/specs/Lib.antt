pub mod Marks
pub mod Models
pub mod Opening
pub mod Settings
pub mod Taking
pub mod Composing
pub mod Questions
