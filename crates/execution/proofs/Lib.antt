pub mod EraseLaws
pub mod GatherLaws
pub mod WriteLaws
pub mod ExecuteLaws
