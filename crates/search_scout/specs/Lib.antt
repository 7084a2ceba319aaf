pub mod Ground
pub mod Narrowed
