pub mod Stands
pub mod Says
pub mod Laws
