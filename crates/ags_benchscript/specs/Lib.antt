-- what the public contracts cite
pub mod Command
pub mod Spelling
pub mod Reading
pub mod Script
pub mod Suiting
-- what serves inside
pub mod Tally
