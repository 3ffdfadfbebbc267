-- what the public contracts cite
pub mod Naming
pub mod Order
pub mod Xref
pub mod XrefFault
-- what serves inside
pub mod Gathering
