-- what the public contracts cite
pub mod Record
pub mod Plan
pub mod Devices
