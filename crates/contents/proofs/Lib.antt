pub mod OwnLaws
pub mod TallyLaws
pub mod UnitsLaws
pub mod KeepLaws
pub mod MeasureLaws
pub mod WrittenLaws
