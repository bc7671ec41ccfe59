pub mod Calls
pub mod Exported
pub mod Told
pub mod Words
