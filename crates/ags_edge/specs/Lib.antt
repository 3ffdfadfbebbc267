-- what the adapters answer, and what a read leaves of a file
pub mod Answers
pub mod Held
