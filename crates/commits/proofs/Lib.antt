pub mod HeldLaws
pub mod ReadLaws
pub mod ExecuteLaws
pub mod ForecastLaws
