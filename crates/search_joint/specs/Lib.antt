pub mod Inside
pub mod Narrowed
pub mod Stacked
