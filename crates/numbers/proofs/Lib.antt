pub mod BitLaws
pub mod Words
pub mod Gathered
pub mod Members
pub mod Examples
