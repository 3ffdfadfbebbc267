-- what the public contracts cite
pub mod Fault
pub mod Text
pub mod Taking
