pub mod Asking
pub mod Declared
pub mod Going
pub mod Stacks
