-- what the public contracts cite
pub mod Ended
pub mod Named
