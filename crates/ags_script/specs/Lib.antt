-- what the public contracts cite
pub mod Limit
pub mod Command
pub mod FaultText
pub mod Operand
pub mod Reading
pub mod Script
pub mod Spelling
pub mod Suiting
-- what serves inside
pub mod Tally
