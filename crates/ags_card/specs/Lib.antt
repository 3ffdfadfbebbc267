-- what the public contracts cite
pub mod Symbol
pub mod Term
pub mod Constant
pub mod Operation
pub mod Spelling
pub mod Reading
pub mod Limit
-- what serves inside
pub mod Padding
