pub mod Hulls
pub mod Forms
pub mod Members
pub mod Extremes
pub mod Elements
pub mod Tables
pub mod Choices
