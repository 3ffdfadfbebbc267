pub mod Devices
pub mod Ran
