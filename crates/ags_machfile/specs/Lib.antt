-- what the public contracts cite
pub mod Limit
pub mod Value
pub mod OrderTable
pub mod PortTable
pub mod MachineFile
pub mod FaultText
pub mod Rule
