-- what the public contracts cite
pub mod FaultText
pub mod Limit
pub mod Spelling
pub mod Text
-- what serves inside
pub mod Gathering
pub mod Operand
