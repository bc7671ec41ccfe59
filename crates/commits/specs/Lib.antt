pub mod ExecuteCode
