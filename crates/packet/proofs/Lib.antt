pub mod Steps
pub mod Spelling
pub mod Walks
pub mod Buffers
pub mod Packets
