pub mod SurveyCode
pub mod PlacesCode
pub mod MakeCode
