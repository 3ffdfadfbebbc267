-- what the public contracts cite
pub mod Fault
pub mod Field
pub mod Line
pub mod LineView
pub mod Numeral
pub mod Piece
pub mod Reading
