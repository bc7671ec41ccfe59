pub mod PackingArrays
pub mod FillArrays
