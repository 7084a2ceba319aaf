pub mod Links
pub mod Pricing
