pub mod Met
pub mod Driving
