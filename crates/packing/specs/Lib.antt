pub mod PackingCode
