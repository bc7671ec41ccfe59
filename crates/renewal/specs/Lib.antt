pub mod LayersCode
pub mod MakeCode
pub mod RenewCode
