pub mod Digit
pub mod Decoding
pub mod Encoding
pub mod Lines
