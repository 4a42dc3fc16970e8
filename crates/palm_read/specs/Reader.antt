-- How the code reads a line from its tokens, from the front on: what each reader takes, what is left behind that, and
-- how far the code holds the numbers that were read.
pub mod Checks
pub mod Held
pub mod Lines
pub mod Lists
pub mod Shapes
pub mod Steps
