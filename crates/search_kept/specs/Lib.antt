pub mod Ends
pub mod Aside
pub mod Known
pub mod Props
