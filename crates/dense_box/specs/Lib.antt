pub mod Ends
pub mod Here
pub mod Standing
pub mod Taking
pub mod Wished
