-- what the public contracts cite
pub mod Key
pub mod Form
pub mod Happening
pub mod Panel
pub mod Standing
-- what serves inside
pub mod Part
