-- what the public contracts cite
pub mod Decimal
pub mod Spelling
-- what serves inside
pub mod Reading
