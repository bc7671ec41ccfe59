pub mod Orders
pub mod OrderCode
pub mod Replies
pub mod ReplyCode
pub mod Sums
pub mod Noises
