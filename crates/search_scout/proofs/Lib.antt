pub mod Narrower
pub mod Going
