-- what serves inside
pub mod Loaded
