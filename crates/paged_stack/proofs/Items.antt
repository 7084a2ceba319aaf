-- What the walks of a row share.
pub mod Knows
pub mod Lent
pub mod Opens
pub mod Places
pub mod Products
