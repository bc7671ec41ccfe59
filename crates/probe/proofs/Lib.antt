pub mod ShowBounds
pub mod MakesLaws
pub mod BytesLaws
