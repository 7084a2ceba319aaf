pub mod Build
pub mod Cases
