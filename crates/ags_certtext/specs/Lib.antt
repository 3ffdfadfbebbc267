-- what the public contracts cite
pub mod FaultText
pub mod Spelling
pub mod Reading
pub mod Statement
pub mod Kind
pub mod Fault
pub mod Condition
pub mod Text
-- what stands below
pub mod Front
pub mod Operand
