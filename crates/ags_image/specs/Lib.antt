-- what the public contracts cite
pub mod Image
pub mod Columns
pub mod Fault
pub mod Form
pub mod Limit
pub mod Lines
pub mod Tape
pub mod TapeFault
