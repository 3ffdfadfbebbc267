-- what the public contracts cite
pub mod Shown
pub mod Act
pub mod Bench
pub mod Doing
pub mod Guard
pub mod Played
pub mod Begun
pub mod Counted
pub mod Cut
pub mod OutsideText
