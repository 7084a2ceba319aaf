pub mod Among
pub mod Narrower
pub mod Settling
pub mod Sizes
pub mod Walking
pub mod Stacks
pub mod Opens
