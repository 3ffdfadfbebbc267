-- what the public contracts cite
pub mod Workload
-- what stands below
pub mod Printed
