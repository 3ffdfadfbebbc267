-- what the public contracts cite
pub mod Budget
pub mod FaultText
pub mod Limit
pub mod Spelling
pub mod Text
-- what serves inside
pub mod Gathering
