pub mod Units
pub mod Data
pub mod Steps
pub mod Write
pub mod WriteCode
pub mod Show
pub mod KeyCode
