pub mod Digits
pub mod LineLaws
pub mod FrameLaws
pub mod TextLaws
pub mod Examples
pub mod LinesLaws
