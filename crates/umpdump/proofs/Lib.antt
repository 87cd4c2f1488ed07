mod Columns
mod Wholes
