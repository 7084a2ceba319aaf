pub mod Worst
pub mod Opposed
pub mod Table
pub mod Refusals
pub mod Laws
