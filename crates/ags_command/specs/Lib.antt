-- what the public contracts cite
pub mod Command
pub mod Views
