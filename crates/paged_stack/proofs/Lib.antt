pub mod Halves
pub mod Items
pub mod Memory
pub mod Packing
pub mod Written
