pub mod Frames
pub mod LineCode
pub mod Lines
