-- what the public contracts cite
pub mod Bound
pub mod Limit
pub mod Refusal
pub mod Split
pub mod Symbol
pub mod View
