mod Heard
mod Opened
