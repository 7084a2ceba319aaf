pub mod Told
pub mod Gapped
pub mod Narrowing
pub mod Held
pub mod Taken
