pub mod Believed
