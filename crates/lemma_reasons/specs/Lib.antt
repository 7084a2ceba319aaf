pub mod Steps
pub mod Asked
pub mod Terms
pub mod Known
pub mod Answering
pub mod Within
