pub mod Words
pub mod Sorts
pub mod Messages
pub mod Reading
pub mod Grammar
pub mod Walking
pub mod Packets
pub mod Drafts
