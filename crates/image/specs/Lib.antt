pub mod Layout
pub mod Images
pub mod LawfulValues
