pub mod LastLaws
pub mod MarkLaws
pub mod SurveyLaws
pub mod EraseLaws
pub mod PlaceLaws
pub mod FewLaws
pub mod ChooseLaws
pub mod MakeLaws
