pub mod Blocks
pub mod Links
pub mod Nodes
pub mod Ownership
pub mod Packed
pub mod Held
pub mod Leaves
pub mod Rows
