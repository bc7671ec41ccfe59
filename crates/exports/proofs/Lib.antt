pub mod CallLaws
pub mod ExportedLists
pub mod WordLaws
pub mod ExactLaws
