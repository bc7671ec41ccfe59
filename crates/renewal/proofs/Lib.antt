pub mod NodesLaws
pub mod LayersLaws
pub mod BlocksLaws
pub mod MakeLaws
pub mod RenewLaws
