pub mod OrderLaws
pub mod ReplyLaws
pub mod SumLaws
pub mod NoiseLaws
pub mod Examples
