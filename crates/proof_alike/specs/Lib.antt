pub mod Alike
pub mod EachStep
pub mod Looking
pub mod Reading
pub mod Same
