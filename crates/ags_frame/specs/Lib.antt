-- what the public contracts cite
pub mod Opening
pub mod Line
pub mod Reading
pub mod Fault
pub mod Order
