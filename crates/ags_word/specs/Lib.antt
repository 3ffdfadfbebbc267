-- what the public contracts cite
pub mod Word
pub mod Long
pub mod Operation
