-- what the public contracts cite
pub mod Advice
pub mod Ending
pub mod Finding
pub mod Forms
pub mod Heading
pub mod Hint
pub mod Line
pub mod Reason
