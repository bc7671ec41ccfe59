pub mod GatherCode
pub mod WriteCode
pub mod ExecutionCode
