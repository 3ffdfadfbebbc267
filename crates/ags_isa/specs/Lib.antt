-- what the public contracts cite
pub mod Order
pub mod Code
pub mod Naming
