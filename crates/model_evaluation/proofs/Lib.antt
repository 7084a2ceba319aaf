pub mod Readable
pub mod Valued
pub mod Items
pub mod Places
pub mod Distinct
pub mod Tables
pub mod Steps
