-- what the public contracts cite
pub mod Source
pub mod Reading
