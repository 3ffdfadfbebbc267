mod Examples
pub mod SoFar
pub mod Stored
